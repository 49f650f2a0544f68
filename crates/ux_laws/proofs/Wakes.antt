-- What sends, shutdowns, losses and connects bring to who waits for it, and that a wait is for just that.
use Rattle.std.proofs.Common.{◌≡◌, ◌≢◌, ◌⊎◌, ℕ, suc, ◌<◌, ◌==◌, Bool, true, false, not, ◌||◌, cond, is_some, List, [], ◌∷◌}
use Rattle.std.proofs.Common.{◌++◌, length, take, Option, Some, None, Result, Ok, Err, option_map, refl, ap, sym, ◌∙◌, subst, inl, inr, ⊎_elim}
use Rattle.std.proofs.Common.{slice_get, arith}
use Rattle.std.specs.Prelude.{is_none, nat_le}
use Rattle.std.proofs.lemmas.Bool.{eqb-true, eqb-false, false≢true, or_right}
use Rattle.ux_model.specs.Types.{Errno, Fd, Cred, Addr, Mode, Request, Reply, Entry}
use Rattle.ux_model.specs.Flags.{can_read, can_write}
use Rattle.ux_model.specs.Names.{is_valid_addr, is_unnamed_addr}
use Rattle.ux_model.specs.Message.{Message}
use Rattle.ux_model.specs.Socket.{Socket, Phase, idle, listening, connected, associated, is_stream, is_dgram, peer_of, tied_socket, pending_ends}
use Rattle.ux_model.specs.Socket.{awaiting, phase_with_pending, with_reset, shut_down}
use Rattle.ux_model.specs.Description.{Description, Target, to_object, to_socket, socket_of, socket_in, changed, changed_target}
use Rattle.ux_model.specs.Process.{own_cred}
use Rattle.ux_model.specs.State.{State, process_at, description_at, socket_at, next_description, with_socket_by, with_new}
use Rattle.ux_model.specs.Outcome.{Outcome, Chosen, own, lacking_memory, failing, refuse, find_socket}
use Rattle.ux_model.specs.Release.{settled}
use Rattle.ux_model.specs.Binding.{look_up}
use Rattle.ux_model.specs.Pairing.{socket_description}
use Rattle.ux_model.specs.Connecting.{Listener, listener_of, connect_to, connect_stream, connect, server_end, tied as tied_by, no_open_flags, shutdown}
use Rattle.ux_model.specs.ReadyCalls.{moves_data}
use Rattle.ux_model.specs.Step.{Step, outcome}
use Rattle.ux_model.specs.History.{IsLegal}
use Rattle.ux_model.specs.Pedigree.{before}
use Rattle.ux_model.proofs.Changes.Walk.{either, maybe}
use Rattle.ux_model.proofs.Lists.ChangedPlaces.{bool_cases, changed_here, place-changed, length-changed}
use Rattle.ux_model.proofs.Lists.Fronts.{front_is_legal}
use Rattle.ux_model.proofs.Invariants.Dangling.{nothing_dangles}
use Rattle.ux_model.proofs.Pedigrees.Moments.{moment}
use Rattle.ux_model.proofs.Tables.Shows.{socket_found}
use Rattle.ux_laws.specs.Talking.{offered_bytes, if_found, socket_through, goes_to, request_addr, destination, is_number, sends_to}
use Rattle.ux_laws.specs.Credentials.{socket_behind}
use Rattle.ux_laws.specs.Inputs.{IsInputOver, shut as input_shut, peer_shut, peer_gone}
use Rattle.ux_laws.specs.Sends.{Queues, IsTaken, whole, first, none as none_taken}
use Rattle.ux_laws.specs.Waits.{IsWaiting, for_peer, for_datagram}
use Rattle.ux_laws.specs.Progress.{HasInput, unread, shut, reset, over, InputOrWait, EndsInput, by_shutdown, by_peer, by_loss, BringsInput}
use Rattle.ux_laws.specs.Progress.{by_send, by_end}
use Rattle.ux_laws.specs.Progress.{InputsCome, EndsCome}
use Rattle.ux_laws.proofs.Acts.{Did}
use Rattle.ux_laws.proofs.Doing.Calls.{step_did}
use Rattle.ux_laws.proofs.Doing.Naming.{look_up_there}
use Rattle.ux_laws.proofs.Near.Single.{pushed_other, none_past}
use Rattle.ux_laws.proofs.LeftAlone.{Lost, same, lost, reset as was_reset, settled_lost}
use Rattle.ux_laws.proofs.Inputs.{PeersGo, peers_go}
use Rattle.ux_laws.proofs.SendWaits.{at_found}
use Rattle.ux_laws.proofs.Sends.{sends_count}
use Rattle.ux_laws.proofs.WaitEnds.{parts_stay, socket_stays}

-- ---- what is there, or has to be waited for

pub both_are : {X : Type 0} {o : Option X} {a b : X} → o ≡ Some a → o ≡ Some b → a ≡ b
both_are h k = let both = sym h ∙ k in cc both

pub not_none : {X : Type 0} {o : Option X} {a : X} → o ≡ Some a → o ≡ None → ⊥
not_none h k = let both = sym h ∙ k in cc both

pub input_no_wait : (S : State) (d : ℕ) (s : Socket) → HasInput S s → IsWaiting S d s → ⊥
input_no_wait S d s (unread some) (for_peer peer other k to at none clear unshut others) = some none
input_no_wait S d s (unread some) (for_datagram k none unshut) = some none
input_no_wait S d s (shut h) (for_peer peer other k to at none clear unshut others) = false≢true (sym unshut ∙ h)
input_no_wait S d s (shut h) (for_datagram k none unshut) = false≢true (sym unshut ∙ h)
input_no_wait S d s (reset kind h) (for_peer peer other k to at none clear unshut others) = false≢true (sym clear ∙ h)
input_no_wait S d s (reset kind h) (for_datagram k none unshut) = false≢true (sym kind ∙ k)
input_no_wait S d s (over kind (input_shut h)) (for_peer peer other k to at none clear unshut others) = false≢true (sym unshut ∙ h)
input_no_wait S d s (over kind (peer_shut q u tied there h)) (for_peer peer other k to at none clear unshut others) =
    let number : peer ≡ q = both_are to tied in
    let one : other ≡ u = both_are at (ap (λ (i : ℕ). socket_at S i) number ∙ there) in
    false≢true (sym others ∙ ap (λ (w : Socket). w.write_shut) one ∙ h)
input_no_wait S d s (over kind (peer_gone q tied gone)) (for_peer peer other k to at none clear unshut others) =
    let number : peer ≡ q = both_are to tied in
    not_none at (ap (λ (i : ℕ). socket_at S i) number ∙ ap socket_in gone)
input_no_wait S d s (over kind o) (for_datagram k none unshut) = false≢true (sym kind ∙ k)

input_or_wait_here : (S : State) (d : ℕ) (s : Socket) → PeersGo S s → moves_data s ≡ true → HasInput S s ⊎ IsWaiting S d s
input_or_wait_here S d s go moves = by_queue s.queue refl
  where
    Goal : Type 0
    Goal = HasInput S s ⊎ IsWaiting S d s

    by_other : is_dgram s.kind ≡ false → (peer : ℕ) → peer_of s.phase ≡ Some peer → s.queue ≡ [] → s.read_shut ≡ false → s.reset ≡ false →
        (x : Option Socket) → socket_at S peer ≡ x → Goal
    by_other k peer to none unshut clear None at = inl (over k (peer_gone peer to (go peer to at)))
    by_other k peer to none unshut clear (Some other) at = bool_cases other.write_shut (λ b. inl (over k (peer_shut peer other to at b)))
        (λ b. inr (for_peer peer other k to at none clear unshut b))

    by_tie : is_dgram s.kind ≡ false → s.queue ≡ [] → s.read_shut ≡ false → s.reset ≡ false → (o : Option ℕ) → peer_of s.phase ≡ o →
        is_some o ≡ true → Goal
    by_tie k none unshut clear None to some = absurd (false≢true some)
    by_tie k none unshut clear (Some peer) to some = by_other k peer to none unshut clear (socket_at S peer) refl

    by_kind : s.queue ≡ [] → s.read_shut ≡ false → (b : Bool) → is_dgram s.kind ≡ b → (b || is_some (peer_of s.phase)) ≡ true → Goal
    by_kind none unshut true k some = inr (for_datagram k none unshut)
    by_kind none unshut false k some = bool_cases s.reset (λ b. inl (reset k b))
        (λ b. by_tie k none unshut b (peer_of s.phase) refl some)

    by_queue : (q : List Message) → s.queue ≡ q → Goal
    by_queue (m ∷ ms) is = inl (unread (λ none. let clash : [] ≡ m ∷ ms = sym none ∙ is in cc clash))
    by_queue [] is = bool_cases s.read_shut (λ b. inl (shut b)) (λ b. by_kind is b (is_dgram s.kind) refl moves)

pub input_or_wait : InputOrWait
input_or_wait boot es j d s legal here moves = record {
  one = input_or_wait_here (before boot es j) d s
      (peers_go (before boot es j) d s (nothing_dangles boot (take j es) (front_is_legal boot es j legal)) here) moves;
  apart = input_no_wait (before boot es j) d s;
}

-- ---- what is left of a socket

pub changed_in : (f : Socket → Socket) (x : Option Description) (s : Socket) → socket_in x ≡ Some s →
    socket_in (option_map (changed f) x) ≡ Some (f s)
changed_in f None s h = absurd (cc h)
changed_in f (Some D) s h = at_target D.target h
  where
    at_target : (t : Target) → socket_of t ≡ Some s → socket_of (changed_target f t) ≡ Some (f s)
    at_target (to_object o) h = absurd (cc h)
    at_target (to_socket u) h = let one : u ≡ s = cc h in ap (λ (w : Socket). Some (f w)) one

pub socket_changed : (S : State) (d : ℕ) (f : Socket → Socket) (s : Socket) → socket_at S d ≡ Some s →
    socket_at (with_socket_by S d f) d ≡ Some (f s)
socket_changed S d f s h = ap socket_in (changed_here S.descriptions d (changed f)) ∙ changed_in f (description_at S d) s h

pub socket_other : (S : State) (c d : ℕ) (f : Socket → Socket) → (c == d) ≡ false → socket_at (with_socket_by S c f) d ≡ socket_at S d
socket_other S c d f apart = ap socket_in (place-changed S.descriptions c d (changed f)
    ∙ ap (λ b. cond b (option_map (changed f) (description_at S d)) (description_at S d)) apart)

-- a part that ECONNRESET leaves alone, at the end of a call
pub left_part : {X : Type 0} (part : Socket → X) (U T : State) (d : ℕ) (u t : Socket) → ((w : Socket) → part (with_reset true w) ≡ part w) →
    Lost U T d → socket_at U d ≡ Some u → socket_at T d ≡ Some t → part t ≡ part u
left_part part U T d u t keeps (same e) here there = ap part (both_are there (ap socket_in e ∙ here))
left_part part U T d u t keeps (lost e) here there = absurd (not_none there (ap socket_in e))
left_part part U T d u t keeps (was_reset r had) here there =
    ap part (both_are there (ap socket_in r.left ∙ changed_in (with_reset true) (Some r.description) u (sym (ap socket_in r.there) ∙ here)))
    ∙ keeps u

-- ---- shutdowns

shutdown_shuts : (S : State) (p k : ℕ) (fd : Fd) (how : Mode) (u : Socket) → find_socket S p fd ≡ Ok (k, u) →
    (shutdown S p fd how).reply ≡ Reply.Ok → (shutdown S p fd how).next ≡ with_socket_by S k (shut_down how)
unfolding shutdown
shutdown_shuts S p k fd how u found = at_found (λ o. o.reply ≡ Reply.Ok → o.next ≡ with_socket_by S k (shut_down how)) S p k fd u _ found
    (either (λ o. o.reply ≡ Reply.Ok → o.next ≡ with_socket_by S k (shut_down how)) (is_none (tied_socket u.phase)) _ _ (λ b h. absurd (cc h))
    (λ b h. refl))

-- a call that is answered neither ENOMEM nor EIO leaves the outcome's own state
pub answered_own : (S U : State) (o : Outcome) (reply r : Reply) → Chosen S o reply U → reply ≡ r → r ≢ Reply.Err Errno.ENOMEM →
    r ≢ Reply.Err Errno.EIO → (o.reply ≡ r) × (U ≡ o.next)
answered_own S U o reply r (own e f) h no_memory no_fault = (sym e ∙ h, f)
answered_own S U o reply r (lacking_memory e may f) h no_memory no_fault = absurd (no_memory (sym h ∙ e))
answered_own S U o reply r (failing e f) h no_memory no_fault = absurd (no_fault (sym h ∙ e))

pub ok_own : (S U : State) (o : Outcome) (reply : Reply) → Chosen S o reply U → reply ≡ Reply.Ok → (o.reply ≡ Reply.Ok) × (U ≡ o.next)
ok_own S U o reply c h = answered_own S U o reply Reply.Ok c h (λ e. cc e) (λ e. cc e)

-- the socket that a number leads to
pub behind_found : (S : State) (p k : ℕ) (fd : Fd) → socket_behind S p fd ≡ Some k → (u : Socket) × (find_socket S p fd ≡ Ok (k, u))
behind_found S p k fd h = go (find_socket S p fd) h
  where
    go : (r : Result (ℕ × Socket) Errno) →
        (elim (if_found r) as (λ _. Option ℕ) [ None ↦ None | Some found ↦ Some found.0 ]) ≡ Some k → (u : Socket) × (r ≡ Ok (k, u))
    go (Err e) h = absurd (cc h)
    go (Ok w) h = let number : w.0 ≡ k = cc h in
        (w.1, ap (λ (i : ℕ). let r : Result (ℕ × Socket) Errno = Ok (i, w.1) in r) number)

-- it is shut down so then
pub step_shuts : (S T : State) (p tag k : ℕ) (fd : Fd) (how : Mode) (reply : Reply) (gone : List ℕ) (t : Socket) →
    Step S p tag (Request.Shutdown fd how) reply gone T → reply ≡ Reply.Ok → socket_behind S p fd ≡ Some k → socket_at T k ≡ Some t →
    (can_read how ≡ true → t.read_shut ≡ true) × (can_write how ≡ true → t.write_shut ≡ true)
unfolding Step outcome
step_shuts S T p tag k fd how reply gone t step answered behind there =
    let w = behind_found S p k fd behind in
    let c = ok_own S step.0 (shutdown S p fd how) reply step.1 answered in
    let here = socket_changed S k (shut_down how) w.0 (socket_found S p k fd w.0 w.1) in
    let U : State = with_socket_by S k (shut_down how) in
    let ends : Lost U T k = subst (λ (V : State). Lost U V k)
    (sym (step.3 ∙ ap settled (c.1 ∙ shutdown_shuts S p k fd how w.0 w.1 c.0))) (settled_lost U k) in (
      λ h. left_part (λ (x : Socket). x.read_shut) U T k (shut_down how w.0) t (λ x. refl) ends here there
          ∙ or_right w.0.read_shut (can_read how) h,
      λ h. left_part (λ (x : Socket). x.write_shut) U T k (shut_down how w.0) t (λ x. refl) ends here there
          ∙ or_right w.0.write_shut (can_write how) h,
    )

-- ---- what comes

-- where a send goes is told by a socket that it goes through
pub sent_through : (S : State) (p d : ℕ) (request : Request) → sends_to S d p request ≡ true →
    (w : ℕ × Socket) × (socket_through S p request ≡ Some w) × (destination S p request ≡ Some d)
sent_through S p d request h = go (socket_through S p request) refl h
  where
    goes : Option (ℕ × Socket) → Option ℕ
    goes o = elim o as (λ _. Option ℕ) [ None ↦ None | Some found ↦ goes_to S found.1 (request_addr request) ]

    is_it : (o : Option ℕ) → is_number d o ≡ true → o ≡ Some d
    is_it None h = absurd (false≢true h)
    is_it (Some n) h = ap Some (eqb-true n d h)

    go : (o : Option (ℕ × Socket)) → socket_through S p request ≡ o → is_number d (goes o) ≡ true →
        (w : ℕ × Socket) × (socket_through S p request ≡ Some w) × (destination S p request ≡ Some d)
    go None is h = absurd (false≢true h)
    go (Some w) is h = (w, is, ap goes is ∙ is_it (goes (Some w)) h)

queue_grew : (old : List Message) (m : Message) → old ++ m ∷ [] ≢ []
queue_grew [] m h = cc h
queue_grew (x ∷ xs) m h = cc h

-- a shutdown in a history
pub shut_now : (boot : State) (es : List Entry) (j k : ℕ) (e : Entry) (fd : Fd) (how : Mode) (v : Socket) → IsLegal boot es →
    slice_get es j ≡ Some e → e.request ≡ Request.Shutdown fd how → e.reply ≡ Reply.Ok →
    socket_behind (before boot es j) e.pid.0 fd ≡ Some k → socket_at (before boot es (suc j)) k ≡ Some v →
    (can_read how ≡ true → v.read_shut ≡ true) × (can_write how ≡ true → v.write_shut ≡ true)
shut_now boot es j k e fd how v legal at is answered behind there =
    step_shuts (before boot es j) (before boot es (suc j)) e.pid.0 j k fd how e.reply e.released v
    (subst (λ (r : Request). Step (before boot es j) e.pid.0 j r e.reply e.released (before boot es (suc j))) is
    (moment boot es j e legal at).steps) answered behind there

-- input is over then
pub inputs_end : (boot : State) (es : List Entry) (j d : ℕ) (e : Entry) (s t : Socket) → IsLegal boot es → slice_get es j ≡ Some e →
    socket_at (before boot es j) d ≡ Some s → EndsInput (before boot es j) e d s (before boot es (suc j)) →
    socket_at (before boot es (suc j)) d ≡ Some t →
    IsInputOver (before boot es (suc j)) t × ((is_dgram t.kind ≡ false) ⊎ (t.read_shut ≡ true))
inputs_end boot es j d e s t legal at here ends there = by_way ends
  where
    S : State
    S = before boot es j

    T : State
    T = before boot es (suc j)

    step : Step S e.pid.0 j e.request e.reply e.released T
    step = (moment boot es j e legal at).steps

    did : Did S e.pid.0 j e.request e.reply T
    did = step_did S T e.pid.0 j e.request e.reply e.released step

    parts : (t.kind ≡ s.kind) × ((peer : ℕ) → peer_of s.phase ≡ Some peer → peer_of t.phase ≡ Some peer)
    parts = parts_stay S T e.pid.0 j d e.request e.reply s t did here there

    Over : Type 0
    Over = IsInputOver (before boot es (suc j)) t × ((is_dgram t.kind ≡ false) ⊎ (t.read_shut ≡ true))

    connected_over : is_dgram s.kind ≡ false → IsInputOver T t → Over
    connected_over k ended = (ended, inl (ap is_dgram parts.0 ∙ k))

    by_peers : (peer : ℕ) → peer_of s.phase ≡ Some peer → (u : Socket) → socket_at S peer ≡ Some u →
        ((v : Socket) → socket_at T peer ≡ Some v → v.write_shut ≡ true) → (x : Option Description) →
        description_at T peer ≡ x → IsInputOver T t
    by_peers peer to u was shuts None is = peer_gone peer (parts.1 peer to) is
    by_peers peer to u was shuts (Some D) is =
        let v = socket_stays S T e.pid.0 j peer e.request e.reply u D did was is in
        peer_shut peer v.0 (parts.1 peer to) v.1 (shuts v.0 v.1)

    by_way : EndsInput S e d s T → Over
    by_way (by_shutdown fd how is answered reads behind) =
        let shuts = (shut_now boot es j d e fd how t legal at is answered behind there).0 reads in (input_shut shuts, inr shuts)
    by_way (by_peer peer fd how k to is answered writes behind) =
        let w = behind_found S e.pid.0 peer fd behind in
        connected_over k (by_peers peer to w.0 (socket_found S e.pid.0 peer fd w.0 w.1)
        (λ v at_end. (shut_now boot es j peer e fd how v legal at is answered behind at_end).1 writes) (description_at T peer) refl)
    by_way (by_loss peer k to gone) = connected_over k (peer_gone peer (parts.1 peer to) gone)

pub inputs_come : InputsCome
inputs_come boot es j d e s t legal at here brings there = by_way brings
  where
    S : State
    S = before boot es j

    T : State
    T = before boot es (suc j)

    has_queued : (bytes : List ℕ) (queue : List Message) → Queues queue (socket_at T d) j bytes → HasInput T t
    has_queued bytes queue q = let w = q t there in
        unread (λ empty. queue_grew queue w.message (sym w.behind ∙ empty))

    by_taken : (n : ℕ) (bytes : List ℕ) (u : Socket) → socket_at S d ≡ Some u → (0 < n) ⊎ (is_stream s.kind ≡ false) →
        IsTaken u (socket_at T d) j n bytes → HasInput T t
    by_taken n bytes u found some (whole k m q) = has_queued bytes u.queue q
    by_taken n bytes u found some (first k more m q) = has_queued (take n bytes) u.queue q
    by_taken n bytes u found some (none_taken k m zero q) = ⊎_elim {C = HasInput T t} (λ more. absurd (omega (arith, more, zero)))
        (λ other. absurd (false≢true (sym other ∙ ap (λ (x : Socket). is_stream x.kind) (both_are here found) ∙ k))) some

    by_way : BringsInput S e d s T → HasInput T t
    by_way (by_send n goes answered some) =
        let w = sent_through S e.pid.0 d e.request goes in
        let sent = sends_count boot es j n w.0.0 e w.0.1 legal at w.1 answered in
        let number : sent.number ≡ d = both_are sent.to w.2 in
        by_taken n (offered_bytes e.request) sent.target (ap (λ (i : ℕ). socket_at S i) (sym number) ∙ sent.there) some
        (subst (λ (i : ℕ). IsTaken sent.target (socket_at T i) j n (offered_bytes e.request)) number sent.takes)
    by_way (by_end ends) =
        let w = inputs_end boot es j d e s t legal at here ends there in
        ⊎_elim {C = HasInput T t} (λ k. over k w.0) (λ h. shut h) w.1

-- ---- ends

-- what a connect that is answered ok leaves of the listener
connect_brings : (S : State) (p c d : ℕ) (fd : Fd) (addr : Addr) (s l : Socket) → find_socket S p fd ≡ Ok (c, s) → is_dgram s.kind ≡ false →
    look_up S s.kind addr ≡ Ok (d, l) → (connect S p fd addr).reply ≡ Reply.Ok →
    (socket_at (connect S p fd addr).next d ≡ Some (awaiting (next_description S) l)) × (is_some (listener_of l.phase) ≡ true)
unfolding connect
connect_brings S p c d fd addr s l found kind led = maybe Q (process_at S p) _ _ (λ h. absurd (cc h))
    (λ P here. at_found Q S p c fd s _ found
    (either Q (is_dgram s.kind) _ _ (λ b. absurd (false≢true (sym kind ∙ b))) (λ b. stream (own_cred p P))))
  where
    Q : Outcome → Type 0
    Q o = o.reply ≡ Reply.Ok →
        (socket_at o.next d ≡ Some (awaiting (next_description S) l)) × (is_some (listener_of l.phase) ≡ true)

    l_there : socket_at S d ≡ Some l
    l_there = (look_up_there S s.kind addr d l led).0

    last_of : (x y z : Bool) → (x || y || z) ≡ false → z ≡ false
    last_of true y z h = absurd (false≢true (sym h))
    last_of false true z h = absurd (false≢true (sym h))
    last_of false false z h = h

    -- the client doesn't listen
    apart : is_some (listener_of s.phase) ≡ false → (kept : Listener) → listener_of l.phase ≡ Some kept → (b : Bool) → (c == d) ≡ b →
        b ≡ false
    apart idles kept k false is = refl
    apart idles kept k true is =
        let one : s ≡ l = both_are (socket_found S p c fd s found) (ap (λ (i : ℕ). socket_at S i) (eqb-true c d is) ∙ l_there) in
        absurd (false≢true (sym idles ∙ ap (λ (w : Socket). is_some (listener_of w.phase)) one ∙ ap is_some k))

    -- it is no new one
    old : (length S.descriptions == d) ≡ false
    old = bool_cases (length S.descriptions == d)
        (λ b. let at : length S.descriptions ≡ d = eqb-true (length S.descriptions) d b in
        absurd (not_none l_there (ap socket_in (none_past S.descriptions d (omega (arith, at))))))
        (λ b. b)

    to_one : (cred : Cred) → is_some (listener_of s.phase) ≡ false → Q (connect_to S c cred d l)
    to_one cred idles = maybe Q (listener_of l.phase) _ _ (λ h. absurd (cc h))
        (λ kept k. either Q (nat_le kept.backlog.limit (length kept.backlog.pending)) _ _ (λ b h. absurd (cc h))
        (λ b h.
        let e : ℕ = next_description S in
        let U : State = with_socket_by S d (awaiting e) in
        let D : Description = socket_description no_open_flags (server_end l c cred) in (
          socket_other (with_new U D) c d (tied_by e kept.cred) (apart idles kept k (c == d) refl)
              ∙ ap socket_in (pushed_other U.descriptions (Some D) d (λ at. eqb-false (length S.descriptions) d old (sym (long d) ∙ at)))
              ∙ socket_changed S d (awaiting e) l l_there,
          ap is_some k,
        )))
      where
        long : (i : ℕ) → length (with_socket_by S i (awaiting (next_description S))).descriptions ≡ length S.descriptions
        long i = length-changed S.descriptions i (changed (awaiting (next_description S)))

    by_look_up : (cred : Cred) → is_some (listener_of s.phase) ≡ false → (r : Result (ℕ × Socket) Errno) → look_up S s.kind addr ≡ r →
        Q (elim r as (λ _. Outcome) [ Err e ↦ refuse S e | Ok w ↦ connect_to S c cred w.0 w.1 ])
    by_look_up cred idles (Err e) is = λ h. absurd (cc h)
    by_look_up cred idles (Ok w) is =
        let both : Ok (d, l) ≡ Ok w = sym led ∙ is in
        let one : (d, l) ≡ w = cc both in
        subst (λ (x : ℕ × Socket). Q (connect_to S c cred x.0 x.1)) one (to_one cred idles)

    stream : (cred : Cred) → Q (connect_stream S c s addr cred)
    stream cred = either Q (not (is_valid_addr addr) || is_unnamed_addr addr || is_some (listener_of s.phase)) _ _ (λ b h. absurd (cc h))
        (λ b. either Q (is_some (peer_of s.phase)) _ _ (λ f h. absurd (cc h))
        (λ f. by_look_up cred (last_of (not (is_valid_addr addr)) (is_unnamed_addr addr) (is_some (listener_of s.phase)) b)
        (look_up S s.kind addr) refl))

one_waits : (e : ℕ) (l : Socket) → is_some (listener_of l.phase) ≡ true → pending_ends (awaiting e l).phase ≢ []
one_waits e l h = by_phase l.phase h
  where
    grew : (es : List ℕ) → es ++ e ∷ [] ≢ []
    grew [] h = cc h
    grew (x ∷ xs) h = cc h

    by_phase : (phase : Phase) → is_some (listener_of phase) ≡ true → pending_ends (phase_with_pending e phase) ≢ []
    by_phase idle h = absurd (false≢true h)
    by_phase (listening backlog cred) h = grew backlog.pending
    by_phase (connected peer) h = absurd (false≢true h)
    by_phase (associated target) h = absurd (false≢true h)

step_brings : (S T : State) (p tag c d : ℕ) (fd : Fd) (addr : Addr) (s l t : Socket) (reply : Reply) (gone : List ℕ) →
    Step S p tag (Request.Connect fd addr) reply gone T → reply ≡ Reply.Ok → find_socket S p fd ≡ Ok (c, s) → is_dgram s.kind ≡ false →
    look_up S s.kind addr ≡ Ok (d, l) → socket_at T d ≡ Some t → pending_ends t.phase ≢ []
unfolding Step outcome
step_brings S T p tag c d fd addr s l t reply gone step answered found kind led there empty =
    let k = ok_own S step.0 (connect S p fd addr) reply step.1 answered in
    let w = connect_brings S p c d fd addr s l found kind led k.0 in
    let U : State = (connect S p fd addr).next in
    one_waits (next_description S) l w.1
    (sym (left_part (λ (x : Socket). pending_ends x.phase) U T d (awaiting (next_description S) l) t (λ x. refl)
    (subst (λ (V : State). Lost U V d) (sym (step.3 ∙ ap settled k.1)) (settled_lost U d)) w.0 there) ∙ empty)

pub ends_come : EndsCome
ends_come boot es j c d e fd addr s listener t legal at request answered found kind led there =
    step_brings (before boot es j) (before boot es (suc j)) e.pid.0 j c d fd addr s listener t e.reply e.released
    (subst (λ (r : Request). Step (before boot es j) e.pid.0 j r e.reply e.released (before boot es (suc j))) request
    (moment boot es j e legal at).steps) answered found kind led there
