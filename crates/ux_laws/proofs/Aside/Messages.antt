-- Receives agree, and so do sends that give no address and no control buffer.
use Rattle.std.proofs.Common.{◌≡◌, ℕ, zero, suc, ◌-◌, min, ◌==◌, Bool, true, false, not, ◌&&◌, ◌||◌, if◌then◌else◌, List, [], ◌∷◌}
use Rattle.std.proofs.Common.{◌++◌}
use Rattle.std.proofs.Common.{map, length, take, drop, Option, Some, None, refl, ap, sym, ◌∙◌, subst}
use Rattle.std.specs.Prelude.{nat_le}
use Rattle.std.specs.List.{AllByRecursion}
use Rattle.ux_model.specs.Types.{Errno, Fd, Cred, MsgFlags}
use Rattle.ux_model.specs.Places.{filled}
use Rattle.ux_model.specs.Flags.{asks_peek, asks_cloexec_rights, are_receive_flags, no_flags}
use Rattle.ux_model.specs.Message.{Message, queued_bytes, all_bytes, same_cred}
use Rattle.ux_model.specs.Stream.{Origin, front_with_cred, front_to_barrier, joined_run, first_bytes, rights_within, without_first}
use Rattle.ux_model.specs.Front.{Front, stream_front, record_front, front_of}
use Rattle.ux_model.specs.Socket.{Socket, is_stream, is_dgram, peer_of}
use Rattle.ux_model.specs.Socket.{with_queue, with_reset}
use Rattle.ux_model.specs.Process.{Descriptor}
use Rattle.ux_model.specs.State.{State, socket_at, table_of, with_table, with_socket_by}
use Rattle.ux_model.specs.Outcome.{Outcome, refuse}
use Rattle.ux_model.specs.Delivery.{delivery, installed}
use Rattle.ux_model.specs.Receiving.{Incoming, incoming, received_reply, receive_front, at_end}
use Rattle.ux_model.specs.Receiving.{receive_connected, receive, recv_msg, bytes_alone, read_socket}
use Rattle.ux_laws.specs.Apartness.{Sides, SocketIsOn, untold}
use Rattle.ux_laws.proofs.Aside.Rounds.{tied_peer}
use Rattle.ux_laws.proofs.Aside.Twins.{Twins, TableIsOn, socket_cases, socket_on, twins_table, twins_socket}
use Rattle.ux_laws.proofs.Aside.Agreeing.{Agrees, refused, answered, remembered, both, socket_both, same_table, own_table}
use Rattle.ux_laws.proofs.Aside.Descriptors.{filled_on}
use Rattle.ux_laws.proofs.Aside.Sockets.{same_bytes, calm_twins}

-- ---- what a receive takes, but for who sent

abbrev hidden : Front → Front
hidden f = record f { origin = None; rest = map untold f.rest }

twice : (ms : List Message) → map untold (map untold ms) ≡ map untold ms
twice [] = refl
twice (m ∷ ms) = ap (λ l. untold m ∷ l) (twice ms)

cred_front : (cred : Cred) (ms : List Message) → front_with_cred cred (map untold ms) ≡ map untold (front_with_cred cred ms)
cred_front cred [] = refl
cred_front cred (m ∷ ms) = go (same_cred m.cred cred) (cred_front cred ms)
  where
    go : (b : Bool) → front_with_cred cred (map untold ms) ≡ map untold (front_with_cred cred ms) →
        (if b then untold m ∷ front_with_cred cred (map untold ms) else []) ≡ map untold (if b then m ∷ front_with_cred cred ms else [])
    go true rest = ap (λ l. untold m ∷ l) rest
    go false rest = refl

barrier_front : (ms : List Message) → front_to_barrier (map untold ms) ≡ map untold (front_to_barrier ms)
barrier_front [] = refl
barrier_front (m ∷ ms) = go (length m.rights == 0) (barrier_front ms)
  where
    go : (b : Bool) → front_to_barrier (map untold ms) ≡ map untold (front_to_barrier ms) →
        (if b then untold m ∷ front_to_barrier (map untold ms) else untold m ∷ [])
        ≡ map untold (if b then m ∷ front_to_barrier ms else m ∷ [])
    go true rest = ap (λ l. untold m ∷ l) rest
    go false rest = refl

run_untold : (wants : Bool) (m : Message) (ms : List Message) → joined_run wants (untold m) (map untold ms) ≡ map untold
    (joined_run wants m ms)
run_untold true m ms = ap front_to_barrier (cred_front m.cred (m ∷ ms)) ∙ barrier_front (front_with_cred m.cred (m ∷ ms))
run_untold false m ms = barrier_front (m ∷ ms)

bytes_untold : (ms : List Message) → all_bytes (map untold ms) ≡ all_bytes ms
bytes_untold [] = refl
bytes_untold (m ∷ ms) = ap (λ l. m.bytes ++ l) (bytes_untold ms)

rights_untold : (n : ℕ) (ms : List Message) → rights_within n (map untold ms) ≡ rights_within n ms
rights_untold zero [] = refl
rights_untold zero (m ∷ ms) = refl
rights_untold (suc n) [] = refl
rights_untold (suc n) (m ∷ ms) = ap (λ l. m.rights ++ l) (rights_untold (suc n - length m.bytes) ms)

rest_untold : (n : ℕ) (ms : List Message) → without_first n (map untold ms) ≡ map untold (without_first n ms)
rest_untold n [] = refl
rest_untold zero (m ∷ ms) = refl
rest_untold (suc n) (m ∷ ms) = go (nat_le (length m.bytes) (suc n)) (rest_untold (suc n - length m.bytes) ms)
  where
    go : (b : Bool) → without_first (suc n - length m.bytes) (map untold ms) ≡ map untold (without_first (suc n - length m.bytes) ms) →
        (if b then without_first (suc n - length m.bytes) (map untold ms) else
        record (untold m) { bytes = drop (suc n) m.bytes; rights = [] } ∷ map untold ms)
        ≡ map untold (if b then without_first (suc n - length m.bytes) ms else
        record m { bytes = drop (suc n) m.bytes; rights = [] } ∷ ms)
    go true rest = rest
    go false rest = refl

stream_untold : (wants : Bool) (n : ℕ) (m : Message) (ms : List Message) →
    hidden (stream_front wants n (untold m) (map untold ms)) ≡ hidden (stream_front wants n m ms)
stream_untold wants n m ms =
    ap (λ (run : List Message). made run (min n (queued_bytes run)) (map untold (without_first (min n (queued_bytes run))
    (untold m ∷ map untold ms))))
    (run_untold wants m ms)
    ∙ ap (λ (k : ℕ). made (map untold run) k (map untold (without_first k (untold m ∷ map untold ms)))) (ap (λ k. min n k) (same_bytes run))
    ∙ ap (λ (bytes : List ℕ). whole (take taken bytes) (rights_within taken (map untold run)) taken
    (map untold (without_first taken (untold m ∷ map untold ms)))) (bytes_untold run)
    ∙ ap (λ (rights : List ℕ). whole (first_bytes taken run) rights taken (map untold (without_first taken (untold m ∷ map untold ms))))
    (rights_untold taken run)
    ∙ ap (λ (rest : List Message). whole (first_bytes taken run) (rights_within taken run) taken rest)
    (ap (map untold) (rest_untold taken (m ∷ ms)) ∙ twice (without_first taken (m ∷ ms)))
  where
    run : List Message
    run = joined_run wants m ms

    taken : ℕ
    taken = min n (queued_bytes (joined_run wants m ms))

    whole : List ℕ → List ℕ → ℕ → List Message → Front
    whole bytes rights k rest =
        record { bytes = bytes; rights = rights; origin = None; cred = m.cred; from = None; whole = k; rest = rest }

    made : List Message → ℕ → List Message → Front
    made l k rest = whole (first_bytes k l) (rights_within k l) k rest

front_untold : (n : ℕ) (s : Socket) (m : Message) (ms : List Message) →
    hidden (front_of n s (untold m) (map untold ms)) ≡ hidden (front_of n s m ms)
front_untold n s m ms = go (is_stream s.kind)
  where
    go : (b : Bool) → hidden (if b then stream_front s.passcred n (untold m) (map untold ms) else record_front n (untold m) (map untold ms))
        ≡ hidden (if b then stream_front s.passcred n m ms else record_front n m ms)
    go true = stream_untold s.passcred n m ms
    go false = ap (λ (rest : List Message). record (hidden (record_front n m ms)) { rest = rest }) (twice ms)

front_alike : (n : ℕ) (s : Socket) (m k : Message) (ms ks : List Message) → untold k ≡ untold m → map untold ks ≡ map untold ms →
    hidden (front_of n s k ks) ≡ hidden (front_of n s m ms)
front_alike n s m k ms ks one rest = sym (front_untold n s k ks)
    ∙ ap (λ (x : Message). hidden (front_of n s x (map untold ks))) one
    ∙ ap (λ (l : List Message). hidden (front_of n s (untold m) l)) rest
    ∙ front_untold n s m ms

-- ---- what it takes is of one side

abbrev pub RightsOn : Sides → List ℕ → Type 0
RightsOn sides ds = AllByRecursion (λ d. sides.description d ≡ true) ds

abbrev QueueOn : Sides → List Message → Type 0
QueueOn sides ms = AllByRecursion (λ (m : Message). RightsOn sides m.rights) ms

joined_on : (sides : Sides) (ds es : List ℕ) → RightsOn sides ds → RightsOn sides es → RightsOn sides (ds ++ es)
joined_on sides [] es on more = more
joined_on sides (d ∷ ds) es on more = (on.0, joined_on sides ds es on.1 more)

cred_on : (sides : Sides) (cred : Cred) (ms : List Message) → QueueOn sides ms → QueueOn sides (front_with_cred cred ms)
cred_on sides cred [] on = tt
cred_on sides cred (m ∷ ms) on = go (same_cred m.cred cred) (cred_on sides cred ms on.1)
  where
    go : (b : Bool) → QueueOn sides (front_with_cred cred ms) → QueueOn sides (if b then m ∷ front_with_cred cred ms else [])
    go true rest = (on.0, rest)
    go false rest = tt

barrier_on : (sides : Sides) (ms : List Message) → QueueOn sides ms → QueueOn sides (front_to_barrier ms)
barrier_on sides [] on = tt
barrier_on sides (m ∷ ms) on = go (length m.rights == 0) (barrier_on sides ms on.1)
  where
    go : (b : Bool) → QueueOn sides (front_to_barrier ms) → QueueOn sides (if b then m ∷ front_to_barrier ms else m ∷ [])
    go true rest = (on.0, rest)
    go false rest = (on.0, tt)

run_on : (sides : Sides) (wants : Bool) (m : Message) (ms : List Message) → QueueOn sides (m ∷ ms) → QueueOn sides (joined_run wants m ms)
run_on sides true m ms on = barrier_on sides (front_with_cred m.cred (m ∷ ms)) (cred_on sides m.cred (m ∷ ms) on)
run_on sides false m ms on = barrier_on sides (m ∷ ms) on

within_on : (sides : Sides) (n : ℕ) (ms : List Message) → QueueOn sides ms → RightsOn sides (rights_within n ms)
within_on sides zero [] on = tt
within_on sides zero (m ∷ ms) on = tt
within_on sides (suc n) [] on = tt
within_on sides (suc n) (m ∷ ms) on = joined_on sides m.rights (rights_within (suc n - length m.bytes) ms) on.0
    (within_on sides (suc n - length m.bytes) ms on.1)

rest_on : (sides : Sides) (n : ℕ) (ms : List Message) → QueueOn sides ms → QueueOn sides (without_first n ms)
rest_on sides n [] on = tt
rest_on sides zero (m ∷ ms) on = on
rest_on sides (suc n) (m ∷ ms) on = go (nat_le (length m.bytes) (suc n)) (rest_on sides (suc n - length m.bytes) ms on.1)
  where
    go : (b : Bool) → QueueOn sides (without_first (suc n - length m.bytes) ms) →
        QueueOn sides (if b then without_first (suc n - length m.bytes) ms else record m { bytes = drop (suc n) m.bytes; rights = [] } ∷ ms)
    go true rest = rest
    go false rest = (tt, on.1)

front_on : (sides : Sides) (n : ℕ) (s : Socket) (m : Message) (ms : List Message) → QueueOn sides (m ∷ ms) →
    RightsOn sides (front_of n s m ms).rights × QueueOn sides (front_of n s m ms).rest
front_on sides n s m ms on = go (is_stream s.kind)
  where
    of_stream : Front
    of_stream = stream_front s.passcred n m ms

    of_record : Front
    of_record = record_front n m ms

    go : (b : Bool) → RightsOn sides (if b then stream_front s.passcred n m ms else record_front n m ms).rights
        × QueueOn sides (if b then stream_front s.passcred n m ms else record_front n m ms).rest
    go true = (within_on sides _ _ (run_on sides s.passcred m ms on), rest_on sides _ (m ∷ ms) on)
    go false = (on.0, on.1)

installed_on : (sides : Sides) (cloexec : Bool) (ns ds : List ℕ) (table : List (Option Descriptor)) → RightsOn sides ds →
    TableIsOn sides true table → TableIsOn sides true (installed cloexec ns ds table)
installed_on sides cloexec [] ds table rights on = on
installed_on sides cloexec (n ∷ ns) [] table rights on = on
installed_on sides cloexec (n ∷ ns) (d ∷ ds) table rights on =
    installed_on sides cloexec ns ds (filled table n (record { description = d; cloexec = cloexec })) rights.1
    (filled_on sides table n (record { description = d; cloexec = cloexec }) on rights.0)

-- ---- receiving

queue_both : (Q : Outcome → Outcome → Type 0) (r q : List Message) (x y : Outcome) (f g : Message → List Message → Outcome) →
    map untold q ≡ map untold r → (r ≡ [] → Q x y) →
    ((m k : Message) (ms ks : List Message) → r ≡ m ∷ ms → q ≡ k ∷ ks → untold k ≡ untold m → map untold ks ≡ map untold ms →
    Q (f m ms) (g k ks)) →
    Q (elim r as (λ _. Outcome) [ [] ↦ x | m ∷ ms ↦ f m ms ]) (elim q as (λ _. Outcome) [ [] ↦ y | m ∷ ms ↦ g m ms ])
queue_both Q [] [] x y f g same none some = none refl
queue_both Q [] (k ∷ ks) x y f g same none some = absurd (cc same)
queue_both Q (m ∷ ms) [] x y f g same none some = absurd (cc same)
queue_both Q (m ∷ ms) (k ∷ ks) x y f g same none some =
    let one : untold k ≡ untold m = cc same in
    let rest : map untold ks ≡ map untold ms = cc same in
    some m k ms ks refl refl one rest

-- a front that is the same but for who sent
front_agrees : {sides : Sides} (S T : State) (p d : ℕ) (s : Socket) (q : List Message) (asked : Incoming) (f : Front) (o : Option Origin)
    (rest : List Message) → Twins sides S T → sides.process p ≡ true → sides.description d ≡ true → map untold rest ≡ map untold f.rest →
    RightsOn sides f.rights → QueueOn sides f.rest → QueueOn sides rest →
    Agrees sides (receive_front S p d s asked f) (receive_front T p d (record s { queue = q }) asked (record f { origin = o; rest = rest }))
unfolding receive_front
front_agrees {sides} S T p d s q asked f o rest twins mine on same rights left left_too = remembered _ _
    (ap (λ (t : List (Option Descriptor)). received_reply s.kind asked.flags f (delivery s.passcred f.cred f.rights asked.space t))
    (same_table p twins mine))
    (go (asks_peek asked.flags))
  where
    table : State → List (Option Descriptor)
    table U = installed (asks_cloexec_rights asked.flags) (delivery s.passcred f.cred f.rights asked.space (table_of U p)).numbers f.rights
        (table_of U p)

    installing : Twins sides (with_table S p (table S)) (with_table T p (table T))
    installing = twins_table S T p (table S) (table T) twins mine
        (ap (λ (t : List (Option Descriptor)).
        installed (asks_cloexec_rights asked.flags) (delivery s.passcred f.cred f.rights asked.space t).numbers f.rights t)
        (same_table p twins mine))
        (installed_on sides (asks_cloexec_rights asked.flags) _ f.rights (table_of S p) rights (own_table p twins mine))

    go : (b : Bool) → Twins sides (if b then with_table S p (table S) else with_socket_by (with_table S p (table S)) d (with_queue f.rest))
        (if b then with_table T p (table T) else with_socket_by (with_table T p (table T)) d (with_queue rest))
    go true = installing
    go false = twins_socket (with_table S p (table S)) (with_table T p (table T)) d (with_queue f.rest) (with_queue rest) installing on
        (λ u r on_one on_two here there alike. (
          record { tied = on_one.tied; pending = on_one.pending; rights = left },
          record { tied = on_two.tied; pending = on_two.pending; rights = left_too },
          ap (λ (ms : List Message). record u { queue = ms }) same,
        ))

took_agrees : {sides : Sides} (S T : State) (p d : ℕ) (s : Socket) (q : List Message) (asked : Incoming) (m k : Message)
    (ms ks : List Message) → Twins sides S T → sides.process p ≡ true → sides.description d ≡ true → SocketIsOn sides true s →
    SocketIsOn sides true (record s { queue = q }) → s.queue ≡ m ∷ ms → q ≡ k ∷ ks → untold k ≡ untold m → map untold ks ≡ map untold ms →
    Agrees sides (receive_front S p d s asked (front_of asked.n s m ms))
    (receive_front T p d (record s { queue = q }) asked (front_of asked.n (record s { queue = q }) k ks))
took_agrees {sides} S T p d s q asked m k ms ks twins mine on left right is at one rest =
    let alike = front_alike asked.n s m k ms ks one rest in
    let f : Front = front_of asked.n s m ms in
    let g : Front = front_of asked.n s k ks in
    let made : g ≡ record f { origin = g.origin; rest = g.rest } =
    ap (λ (x : Front). record x { origin = g.origin; rest = g.rest }) alike in
    let ours = front_on sides asked.n s m ms (subst (QueueOn sides) is left.rights) in
    let theirs = front_on sides asked.n s k ks (subst (QueueOn sides) at right.rights) in
    subst (λ (x : Front). Agrees sides (receive_front S p d s asked f) (receive_front T p d (record s { queue = q }) asked x)) (sym made)
    (front_agrees S T p d s q asked f g.origin g.rest twins mine on (ap (λ (x : Front). x.rest) alike) ours.0 ours.1 theirs.1)

pub receive_agrees : {sides : Sides} (S T : State) (p d : ℕ) (s : Socket) (q : List Message) (asked : Incoming) → Twins sides S T →
    sides.process p ≡ true → sides.description d ≡ true → socket_at S d ≡ Some s → socket_at T d ≡ Some (record s { queue = q }) →
    map untold q ≡ map untold s.queue → Agrees sides (receive S p d s asked) (receive T p d (record s { queue = q }) asked)
receive_agrees {sides} S T p d s q asked twins mine on here there same = both Q (is_dgram s.kind) _ _ _ _ _ refl
    (λ b. queue_both Q s.queue q _ _ _ _ same (λ none. both Q s.read_shut _ _ _ _ _ refl (λ c. answered _ _ refl twins)
    (λ c. refused twins)) taken)
    (λ b. by_peer (peer_of s.phase) refl)
  where
    Q : Outcome → Outcome → Type 0
    Q = Agrees sides

    left : SocketIsOn sides true s
    left = socket_on sides S d s twins.left on here

    right : SocketIsOn sides true (record s { queue = q })
    right = socket_on sides T d (record s { queue = q }) twins.right on there

    taken : (m k : Message) (ms ks : List Message) → s.queue ≡ m ∷ ms → q ≡ k ∷ ks → untold k ≡ untold m → map untold ks ≡ map untold ms →
        Q (receive_front S p d s asked (front_of asked.n s m ms))
        (receive_front T p d (record s { queue = q }) asked (front_of asked.n (record s { queue = q }) k ks))
    taken m k ms ks is at one rest = took_agrees S T p d s q asked m k ms ks twins mine on left right is at one rest

    ended : (peer : ℕ) → peer_of s.phase ≡ Some peer → at_end T (record s { queue = q }) peer ≡ at_end S s peer
    ended peer is = socket_cases (λ x y. over y ≡ over x) S T peer (twins.descriptions peer (left.tied peer
        (tied_peer s.phase peer is))) refl
        (λ u r at at_too alike. refl)
      where
        over : Option Socket → Bool
        over x = elim x as (λ _. Bool) [ None ↦ true | Some other ↦ s.read_shut || other.write_shut ]

    from_peer : State → Socket → Option ℕ → Outcome
    from_peer U u x = elim x as (λ _. Outcome) [ None ↦ refuse U Errno.ENOTCONN | Some peer ↦ receive_connected U p d u peer asked ]

    by_peer : (x : Option ℕ) → peer_of s.phase ≡ x → Q (from_peer S s x) (from_peer T (record s { queue = q }) x)
    by_peer None is = refused twins
    by_peer (Some peer) is = both Q (is_stream s.kind && (asked.n == 0)) _ _ _ _ _ refl (λ b. answered _ _ refl twins)
        (λ b. queue_both Q s.queue q _ _ _ _ same
        (λ none. both Q s.reset _ _ _ _ _ refl
        (λ c. answered _ _ refl (calm_twins S T d (with_reset false) twins on (λ s. refl) (λ s. refl) (λ s. refl)))
        (λ c. both Q (at_end S s peer) (at_end T (record s { queue = q }) peer) _ _ _ _ (ended peer is) (λ e. answered _ _ refl twins)
        (λ e. refused twins))) taken)

pub recv_agrees : {sides : Sides} (S T : State) (p : ℕ) (fd : Fd) (n space : ℕ) (flags : MsgFlags) → Twins sides S T →
    sides.process p ≡ true → Agrees sides (recv_msg S p fd n space flags) (recv_msg T p fd n space flags)
unfolding recv_msg
recv_agrees {sides} S T p fd n space flags twins mine = socket_both (Agrees sides) sides S T p fd _ _ twins mine (λ e. refused twins)
    (λ d s q on here there same. both (Agrees sides) (not (are_receive_flags flags)) _ _ _ _ _ refl (λ b. refused twins)
    (λ b. receive_agrees S T p d s q (incoming n space flags) twins mine on here there same))

pub read_socket_agrees : {sides : Sides} (S T : State) (p d : ℕ) (s : Socket) (q : List Message) (n : ℕ) → Twins sides S T →
    sides.process p ≡ true → sides.description d ≡ true → socket_at S d ≡ Some s → socket_at T d ≡ Some (record s { queue = q }) →
    map untold q ≡ map untold s.queue → Agrees sides (read_socket S p d s n) (read_socket T p d (record s { queue = q }) n)
read_socket_agrees S T p d s q n twins mine on here there same =
    let a = receive_agrees S T p d s q (incoming n 0 no_flags) twins mine on here there same in
    record { reply = ap bytes_alone a.reply; next = a.next; failure = a.failure }
