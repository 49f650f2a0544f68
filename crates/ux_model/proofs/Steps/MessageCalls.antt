-- Of sends and receives: that their outcomes obey what all do.
use Rattle.std.proofs.Common.{◌≡◌, ℕ, suc, ◌+◌, ◌≤◌, ◌<◌, Bool, true, false, not, ◌&&◌, ◌||◌, ◌==◌, if◌then◌else◌, cond, List, [], ◌∷◌}
use Rattle.std.proofs.Common.{length, Option, Some, None, refl, ap, sym, ◌∙◌, subst, arith, ◌⊎◌, inl, inr}
use Rattle.std.specs.Prelude.{nat_lt, is_some}
use Rattle.std.proofs.lemmas.Bool.{and_cases, cases_lt, ltb-false, eqb-true, eq-eqb}
use Rattle.std.proofs.lemmas.List.Sums.{sum_by-cons, sum_by_push}
use Rattle.ux_model.specs.Types.{Errno, Fd, Cred, Addr, SockType, MsgFlags, Reply}
use Rattle.ux_model.specs.Places.{place}
use Rattle.ux_model.specs.Flags.{are_send_flags, are_receive_flags, asks_peek, asks_cloexec_rights}
use Rattle.ux_model.specs.Message.{Message, same_cred}
use Rattle.ux_model.specs.Control.{Control}
use Rattle.ux_model.specs.ControlReading.{control_in}
use Rattle.ux_model.specs.Front.{Front, front_of}
use Rattle.ux_model.specs.Delivery.{delivery, installed}
use Rattle.ux_model.specs.Limits.{name_limit, record_bytes_limit, rights_limit}
use Rattle.ux_model.specs.Rooms.{sender_bytes}
use Rattle.ux_model.specs.Socket.{Socket, is_stream, is_dgram, peer_of, association_of, takes_from, has_room, sent_part, sent, with_queue}
use Rattle.ux_model.specs.Socket.{with_reset, with_association}
use Rattle.ux_model.specs.Process.{Process, Descriptor, own_cred}
use Rattle.ux_model.specs.State.{State, is_live, process_at, description_at, socket_at, table_of, with_socket_by}
use Rattle.ux_model.specs.References.{times, queue_refs, refs}
use Rattle.ux_model.specs.Outcome.{Outcome, refuse, answer}
use Rattle.ux_model.specs.Sending.{Sending, sending, descriptions_behind, message_of, flight_limit, is_over_limit, enqueue, is_too_long}
use Rattle.ux_model.specs.Sending.{send_to_peer, send_connected, send_stream, send_datagram, send_from, is_sendable_addr}
use Rattle.ux_model.specs.Sending.{is_sendable_control, sender_cred_refusal, sent_cred, send_as, send_with, send_read, reading_control}
use Rattle.ux_model.specs.Sending.{send_msg}
use Rattle.ux_model.proofs.Messages.Datagrams.{send_to_target, send_by_association, send_by}
use Rattle.ux_model.specs.Receiving.{Incoming, incoming, recv_msg, receive, receive_from_peer, at_end, receive_nothing, receive_front}
use Rattle.ux_model.specs.Receiving.{with_installed}
use Rattle.ux_model.specs.Flight.{of_user, rights_sent_by, in_flight}
use Rattle.ux_model.specs.FlightLaws.{AreLimited}
use Rattle.ux_model.specs.Invariants.{LeftByRefusal}
use Rattle.ux_model.proofs.Messages.FrontRights.{front_of_refs}
use Rattle.ux_model.proofs.Messages.Flying.{front_of_flying}
use Rattle.ux_model.proofs.Changes.Sound.{IsSound}
use Rattle.ux_model.proofs.Changes.Bounds.{HasBounds, IsBounded, AreBounded, socket_bounded, sent_bounded, rest_bounded}
use Rattle.ux_model.proofs.Changes.Named.{entry_counts, socket_counted}
use Rattle.ux_model.proofs.Changes.Walk.{either, maybe, by_queue, found_socket, found_named}
use Rattle.ux_model.proofs.Steps.NameCalls.{same_descriptions, association_reached}
use Rattle.ux_model.proofs.Changes.Reaching.{tables_alone, Reaches, still, KeepsSocket, queue_changed, pending_changed, NamesWhatIsThere}
use Rattle.ux_model.proofs.Changes.Reaching.{put_names, same_names, with_table_reached, with_socket_reached}
use Rattle.ux_model.proofs.Changes.Obeying.{Call, refuses, answers}
use Rattle.ux_model.proofs.Changes.HeldOpen.{same_objects, with_table_objects}

-- what isn't there is among these not once
abbrev pub NamesNoneGone : State → List ℕ → Type 0
NamesNoneGone S ds = (k : ℕ) → is_some (description_at S k) ≡ false → times k ds ≡ 0

-- ---- sending

-- something refers to what the numbers of a table lead to
pub behind_counts : (S : State) (p k : ℕ) (ns ds : List ℕ) → descriptions_behind (table_of S p) ns ≡ Some ds → 0 < times k ds → 0 < refs S k
behind_counts S p k [] ds h some = let e : [] ≡ ds = cc h in let none : times k ds ≡ 0 = ap (times k) (sym e) in
    absurd (omega (arith, none, some))
behind_counts S p k (n ∷ ns) ds h some = first (λ more g. behind_counts S p k ns more g) (place (table_of S p) n) refl h
  where
    Later : Type 0
    Later = (more : List ℕ) → descriptions_behind (table_of S p) ns ≡ Some more → 0 < times k more → 0 < refs S k

    at_last : Later → (e : Descriptor) (r : Option (List ℕ)) → place (table_of S p) n ≡ Some e → descriptions_behind (table_of S p) ns ≡ r →
        (elim r as (λ _. Option (List ℕ)) [ None ↦ None | Some more ↦ Some (e.description ∷ more) ]) ≡ Some ds → 0 < refs S k
    at_last later e None f g t = absurd (cc t)
    at_last later e (Some more) f g t = go (e.description == k) refl
      where
        same : e.description ∷ more ≡ ds
        same = cc t

        counted : times k ds ≡ cond {A = ℕ} (e.description == k) 1 0 + times k more
        counted = ap (times k) (sym same) ∙ sum_by-cons (λ d. cond {A = ℕ} (d == k) 1 0) e.description more

        go : (b : Bool) → (e.description == k) ≡ b → 0 < refs S k
        go true is =
            let here : 0 < refs S e.description = entry_counts S p n e f in
            let one : e.description ≡ k = eqb-true e.description k is in
            let same : refs S e.description ≡ refs S k = ap (refs S) one in
            omega (arith, here, same)
        go false is =
            let none : cond {A = ℕ} (e.description == k) 1 0 ≡ 0 = ap (λ b. cond {A = ℕ} b 1 0) is in
            later more g (omega (arith, counted, none, some))

    first : Later → (o : Option Descriptor) → place (table_of S p) n ≡ o →
        (elim o as (λ _. Option (List ℕ)) [
          | None ↦ None
          | Some e ↦ elim (descriptions_behind (table_of S p) ns) as
              (λ _. Option (List ℕ)) [ None ↦ None | Some more ↦ Some (e.description ∷ more) ]
        ]) ≡ Some ds → 0 < refs S k
    first later None f t = absurd (cc t)
    first later (Some e) f t = at_last later e (descriptions_behind (table_of S p) ns) f refl t

-- so where nothing dangles it is there
behind_there : (S : State) (p : ℕ) (ns ds : List ℕ) → IsSound S → descriptions_behind (table_of S p) ns ≡ Some ds → NamesNoneGone S ds
behind_there S p ns ds sound h k gone = go (cases_lt 0 (times k ds))
  where
    go : (0 < times k ds) ⊎ (times k ds ≤ 0) → times k ds ≡ 0
    go (inr none) = omega (arith, none)
    go (inl some) =
        let counted : 0 < refs S k = behind_counts S p k ns ds h some in
        let none : refs S k ≡ 0 = sound.held.no_description_dangles k gone in
        absurd (omega (arith, counted, none))

-- ---- the limit of rights in flight

-- where the processes of a user are limited, so is this one, which is theirs
abbrev IsLimitOf : State → Option ℕ → ℕ → Type 0
IsLimitOf S limit uid = (most : ℕ) → AreLimited S uid most → (k : ℕ) × (limit ≡ Some k) × (k ≤ most)

pub flight_limit_is : (S : State) (p : ℕ) (P : Process) → process_at S p ≡ Some P → IsLimitOf S (flight_limit P) P.uid
flight_limit_is S p P here most are =
    let own = are p P here refl in
    (length P.table, ap (λ b. if◌then◌else◌ {A = Option ℕ} b None (Some (length P.table))) own.0, own.1)

-- what is not over a limit has no rights, or keeps to it
keeps_to : (n k a : ℕ) → (nat_lt 0 n && nat_lt k a) ≡ false → (n ≤ 0) ⊎ (a ≤ k)
keeps_to n k a h = go (and_cases (nat_lt 0 n) (nat_lt k a) h)
  where
    go : (nat_lt 0 n ≡ false) ⊎ (nat_lt k a ≡ false) → (n ≤ 0) ⊎ (a ≤ k)
    go (inl none) = inl (ltb-false 0 n none)
    go (inr below) = inr (ltb-false k a below)

-- so the rights of a message that is taken fit in with those of its user
sent_fits : (S : State) (limit : Option ℕ) (m : Message) (u most : ℕ) → IsLimitOf S limit m.uid → is_over_limit S limit m ≡ false →
    AreLimited S u most → in_flight S u ≤ most →
    in_flight S u + of_user u m.uid (length m.rights) ≤ most
sent_fits S limit m u most is over are within = go (m.uid == u) refl
  where
    fits : (k : ℕ) → m.uid ≡ u → k ≤ most → (length m.rights ≤ 0) ⊎ (in_flight S m.uid + length m.rights ≤ k) →
        in_flight S u + length m.rights ≤ most
    fits k e low (inl none) = omega (arith, within, none)
    fits k e low (inr below) = let same : in_flight S m.uid ≡ in_flight S u = ap (in_flight S) e in omega (arith, low, below, same)

    go : (b : Bool) → (m.uid == u) ≡ b → in_flight S u + (if b then length m.rights else 0) ≤ most
    go true h =
        let e : m.uid ≡ u = eqb-true m.uid u h in
        let own = is most (subst (λ v. AreLimited S v most) (sym e) are) in
        let below : is_over_limit S (Some own.0) m ≡ false = subst (λ l. is_over_limit S l m ≡ false) own.1 over in
        fits own.0 e own.2 (keeps_to (length m.rights) own.0 (in_flight S m.uid + length m.rights) below)
    go false h = omega (arith, within)

-- what a message asks for to be sent: its rights name what is there, and are few; the limit is one of its user; and its sender's name is
-- short
abbrev pub MaySend : State → Option ℕ → Message → Type 0
MaySend S limit m = (IsSound S → NamesNoneGone S m.rights) × IsLimitOf S limit m.uid × (length m.rights ≤ rights_limit)
    × (AreBounded S → sender_bytes m.from ≤ name_limit)

-- and of the socket that it goes to: it is a stream, or the message isn't too long
abbrev MayTake : State → ℕ → Message → Type 0
MayTake S d m = (s : Socket) → socket_at S d ≡ Some s → is_stream s.kind ≡ false → length m.bytes ≤ record_bytes_limit

-- ---- into a queue

-- a message refers to what its rights do
sent_keeps : (S : State) (limit : Option ℕ) (n : ℕ) (m : Message) (s : Socket) → IsSound S → MaySend S limit m →
    is_over_limit S limit m ≡ false →
    (is_stream s.kind ≡ false → length m.bytes ≤ record_bytes_limit) → KeepsSocket S n s (sent m s)
sent_keeps S limit n m s sound may over fits = record {
  holds = λ d gone.
      let more = sum_by_push (λ m. times d (Message.rights m)) s.queue (sent_part s m) in
      let z : times d m.rights ≡ 0 = may.0 sound d gone in
      omega (arith, more, z);
  peer = refl;
  pending = λ d. omega arith;
  waits = λ h. omega arith;
  flies = λ u most are within.
      let more = sum_by_push (λ (m : Message). of_user u m.uid (length m.rights)) s.queue (sent_part s m) in
      let fits : in_flight S u + of_user u m.uid (length m.rights) ≤ most = sent_fits S limit m u most may.1 over are within in
      omega (arith, more, fits);
  bounds = λ all own. sent_bounded s m may.2 (may.3 all) fits own;
  named = λ name h. h;
}

-- the queue of a socket that is there
enqueue_obeys : (S : State) (limit : Option ℕ) (d : ℕ) (other : Socket) (m : Message) → MaySend S limit m → MayTake S d m →
    Call S (enqueue S limit d other m)
enqueue_obeys S limit d other m may take =
    either (Call S) (is_stream other.kind && (length m.bytes == 0)) _ _ (λ b. answers refl refl refl refl still)
    (λ b. either (Call S) (is_over_limit S limit m) _ _ (λ c. refuses refl refl)
    (λ c. either (Call S) (not (has_room other)) _ _ (λ e. refuses refl refl)
    (λ e. answers refl refl refl refl (with_socket_reached S d (sent m) still
    (λ sound s here. sent_keeps S limit d m s sound may c (take s here))))))

to_peer_obeys : (S : State) (limit : Option ℕ) (shut : Bool) (d : ℕ) (m : Message) → MaySend S limit m →
    Call S (send_to_peer S limit shut d m)
to_peer_obeys S limit shut d m may = maybe (Call S) (socket_at S d) _ _ (refuses refl refl)
    (λ other h. either (Call S) (shut || other.read_shut) _ _ (λ b. refuses refl refl)
    (λ b. either (Call S) (is_too_long other m) _ _ (λ c. refuses refl refl)
    (λ c. enqueue_obeys S limit d other m may (λ s here other_kind. go other s h here other_kind c))))
  where
    go : (other s : Socket) → socket_at S d ≡ Some other → socket_at S d ≡ Some s → is_stream s.kind ≡ false → is_too_long other m ≡ false →
        length m.bytes ≤ record_bytes_limit
    go other s h here apart fits =
        let same : other ≡ s = cc (sym h ∙ here) in
        let short : (not (is_stream s.kind) && nat_lt record_bytes_limit (length m.bytes)) ≡ false = ap (λ u. is_too_long u m) (sym same)
        ∙ fits in
        let long : nat_lt record_bytes_limit (length m.bytes) ≡ false =
        ap (λ b. not b && nat_lt record_bytes_limit (length m.bytes)) (sym apart) ∙ short in
        ltb-false record_bytes_limit (length m.bytes) long

connected_obeys : (S : State) (limit : Option ℕ) (shut : Bool) (peer : Option ℕ) (m : Message) → MaySend S limit m →
    Call S (send_connected S limit shut peer m)
connected_obeys S limit shut None m may = refuses refl refl
connected_obeys S limit shut (Some peer) m may = to_peer_obeys S limit shut peer m may

stream_obeys : (S : State) (limit : Option ℕ) (shut : Bool) (peer : Option ℕ) (addr : Option Addr) (m : Message) → MaySend S limit m →
    Call S (send_stream S limit shut peer addr m)
stream_obeys S limit shut peer None m may = connected_obeys S limit shut peer m may
stream_obeys S limit shut None (Some addr) m may = refuses refl refl
stream_obeys S limit shut (Some peer) (Some addr) m may = refuses refl refl

to_target_obeys : (S : State) (limit : Option ℕ) (d t : ℕ) (target : Socket) (m : Message) → MaySend S limit m →
    length m.bytes ≤ record_bytes_limit → Call S (send_to_target S limit d t target m)
to_target_obeys S limit d t target m may fits = either (Call S) (not (takes_from d target.phase)) _ _ (λ b. refuses refl refl)
    (λ b. either (Call S) target.read_shut _ _ (λ c. refuses refl refl) (λ c. enqueue_obeys S limit t target m may (λ s here apart. fits)))

-- an association to what is gone ends
ended_obeys : (S : State) (d t : ℕ) (s : Socket) → socket_at S d ≡ Some s → association_of s.phase ≡ Some t → socket_at S t ≡ None →
    Call S (answer (Reply.Err Errno.ECONNREFUSED) (with_socket_by S d (with_association None)))
ended_obeys S d t s h tied gone = record {
  own_reply = refl;
  refused = λ e told. let same : Errno.ECONNREFUSED ≡ e = cc told in
      subst (λ g. LeftByRefusal S g (with_socket_by S d (with_association None))) same
      (inr (record { description = d; target = t; socket = s; there = h; was_associated = tied; was_gone = gone; left = refl }));
  failed = λ T none. absurd (cc none);
  fails = λ T none. absurd (cc none);
  reached = association_reached S d None;
  objects = same_objects S (with_socket_by S d (with_association None)) refl;
  alike = λ n was. refl;
}

by_association_obeys : (S : State) (limit : Option ℕ) (d : ℕ) (s : Socket) (m : Message) → socket_at S d ≡ Some s → MaySend S limit m →
    length m.bytes ≤ record_bytes_limit →
    Call S (send_by_association S limit d (association_of s.phase) m)
by_association_obeys S limit d s m h may fits = go (association_of s.phase) refl
  where
    at_target : (t : ℕ) → association_of s.phase ≡ Some t → (o : Option Socket) → socket_at S t ≡ o → Call S (elim o as (λ _. Outcome) [
      | None ↦ answer (Reply.Err Errno.ECONNREFUSED) (with_socket_by S d (with_association None))
      | Some target ↦ send_to_target S limit d t target m
    ])
    at_target t tied None gone = ended_obeys S d t s h tied gone
    at_target t tied (Some target) there = to_target_obeys S limit d t target m may fits

    go : (o : Option ℕ) → association_of s.phase ≡ o → Call S (send_by_association S limit d o m)
    go None tied = refuses refl refl
    go (Some t) tied = at_target t tied (socket_at S t) refl

datagram_obeys : (S : State) (limit : Option ℕ) (d : ℕ) (s : Socket) (addr : Option Addr) (m : Message) → socket_at S d ≡ Some s →
    MaySend S limit m → Call S (send_datagram S limit d s addr m)
datagram_obeys S limit d s addr m h may = either (Call S) (nat_lt record_bytes_limit (length m.bytes)) _ _ (λ b. refuses refl refl)
    (λ b. either (Call S) s.write_shut _ _ (λ c. refuses refl refl) (λ c. by_addr addr (ltb-false record_bytes_limit (length m.bytes) b)))
  where
    told : Message
    told = record m { from = Some s.name }

    may_tell : MaySend S limit told
    may_tell = (may.0, may.1, may.2, λ bounded. (socket_bounded S d s bounded h).short)

    by_addr : (a : Option Addr) → length m.bytes ≤ record_bytes_limit → Call S (send_by S limit d s a told)
    by_addr None fits = by_association_obeys S limit d s told h may_tell fits
    by_addr (Some a) fits = found_named (Call S) S s.kind a _ (refuses refl refl) (refuses refl refl) (refuses refl (inl refl))
        (refuses refl refl)
        (λ t target there. to_target_obeys S limit d t target told may_tell fits)

pub from_obeys : (S : State) (limit : Option ℕ) (d : ℕ) (s : Socket) (addr : Option Addr) (m : Message) → socket_at S d ≡ Some s →
    MaySend S limit m → Call S (send_from S limit d s addr m)
from_obeys S limit d s addr m h may = either (Call S) (is_dgram s.kind) _ _ (λ b. datagram_obeys S limit d s addr m h may)
    (λ b. stream_obeys S limit s.write_shut (peer_of s.phase) addr m may)

-- credentials that may not be given are EPERM or ESRCH
tells_refusal : (S : State) (p : ℕ) (P : Process) (given : Option Cred) (e : Errno) → sender_cred_refusal S p P given ≡ Some e →
    (e ≡ Errno.EPERM) ⊎ (e ≡ Errno.ESRCH)
tells_refusal S p P None e h = absurd (cc h)
tells_refusal S p P (Some cred) e h = go P.privileged (is_live S cred.pid.0) (same_cred cred (own_cred p P)) h
  where
    go : (privileged lives own : Bool) → (if privileged then (if lives then None else Some Errno.ESRCH) else if own then None
        else Some Errno.EPERM) ≡ Some e →
        (e ≡ Errno.EPERM) ⊎ (e ≡ Errno.ESRCH)
    go true true own h = absurd (cc h)
    go true false own h = inr (let same : Errno.ESRCH ≡ e = cc h in sym same)
    go false lives true h = absurd (cc h)
    go false lives false h = inl (let same : Errno.EPERM ≡ e = cc h in sym same)

of_cred : (S : State) (e : Errno) → (e ≡ Errno.EPERM) ⊎ (e ≡ Errno.ESRCH) → Call S (refuse S e)
of_cred S e (inl is) = subst (λ f. Call S (refuse S f)) (sym is) (refuses refl refl)
of_cred S e (inr is) = subst (λ f. Call S (refuse S f)) (sym is) (refuses refl refl)

given_obeys : (S : State) (k : Sending) (d : ℕ) (s : Socket) (given : Option Cred) (rights : List ℕ) →
    process_at S k.caller ≡ Some k.process → socket_at S d ≡ Some s →
    (IsSound S → NamesNoneGone S rights) → length rights ≤ rights_limit → Call S (send_as S k d s given rights)
given_obeys S k d s given rights here h names few =
    by_refusal (sender_cred_refusal S k.caller k.process given) (tells_refusal S k.caller k.process given)
  where
    by_refusal : (o : Option Errno) → ((e : Errno) → o ≡ Some e → (e ≡ Errno.EPERM) ⊎ (e ≡ Errno.ESRCH)) →
        Call S (elim o as (λ _. Outcome) [
          | Some e ↦ refuse S e
          | None ↦ if not (is_sendable_addr k.addr) then refuse S Errno.EINVAL
              else send_from S (flight_limit k.process) d s k.addr (message_of k (sent_cred k.caller k.process given) rights)
        ])
    by_refusal (Some e) told = of_cred S e (told e refl)
    by_refusal None told = either (Call S) (not (is_sendable_addr k.addr)) _ _ (λ b. refuses refl refl)
        (λ b. from_obeys S (flight_limit k.process) d s k.addr (message_of k (sent_cred k.caller k.process given) rights) h
        (names, flight_limit_is S k.caller k.process here, few, λ bounded. omega arith))

-- as many as the numbers that were given
behind_long : (table : List (Option Descriptor)) (ns ds : List ℕ) → descriptions_behind table ns ≡ Some ds → length ds ≡ length ns
behind_long table [] ds h = let e : [] ≡ ds = cc h in ap length (sym e)
behind_long table (n ∷ ns) ds h = first (λ more g. behind_long table ns more g) (place table n) h
  where
    Later : Type 0
    Later = (more : List ℕ) → descriptions_behind table ns ≡ Some more → length more ≡ length ns

    at_last : Later → (e : Descriptor) (r : Option (List ℕ)) → descriptions_behind table ns ≡ r →
        (elim r as (λ _. Option (List ℕ)) [ None ↦ None | Some more ↦ Some (e.description ∷ more) ]) ≡ Some ds → length ds ≡ suc (length ns)
    at_last later e None g t = absurd (cc t)
    at_last later e (Some more) g t = let same : e.description ∷ more ≡ ds = cc t in ap length (sym same) ∙ ap suc (later more g)

    first : Later → (o : Option Descriptor) →
        (elim o as (λ _. Option (List ℕ)) [
          | None ↦ None
          | Some e ↦ elim (descriptions_behind table ns) as (λ _. Option (List ℕ)) [ None ↦ None | Some more ↦ Some (e.description ∷ more) ]
        ]) ≡ Some ds → length ds ≡ suc (length ns)
    first later None t = absurd (cc t)
    first later (Some e) t = at_last later e (descriptions_behind table ns) refl t

-- and those are few
sendable_few : (kind : SockType) (bytes : List ℕ) (control : Control) (rights : List ℕ) →
    not (is_sendable_control kind bytes control) ≡ false → length rights ≡ length control.rights → length rights ≤ rights_limit
sendable_few kind bytes control rights h same = go (nat_lt rights_limit (length control.rights)) refl h
  where
    go : (b : Bool) → nat_lt rights_limit (length control.rights) ≡ b →
        not (not b && not (is_stream kind && (nat_lt 0 (length control.rights) && (length bytes == 0)))) ≡ false →
        length rights ≤ rights_limit
    go true is h = absurd (cc h)
    go false is h = let few = ltb-false rights_limit (length control.rights) is in omega (arith, few, same)

with_obeys : (S : State) (k : Sending) (d : ℕ) (s : Socket) (control : Control) → process_at S k.caller ≡ Some k.process →
    socket_at S d ≡ Some s → Call S (send_with S k d s control)
unfolding send_with
with_obeys S k d s control here h = either (Call S) (not (is_sendable_control s.kind k.bytes control)) _ _ (λ b. refuses refl refl)
    (λ b. maybe (Call S) (descriptions_behind (table_of S k.caller) control.rights) _ _ (refuses refl refl)
    (λ rights behind. given_obeys S k d s control.cred rights here h (λ sound. behind_there S k.caller control.rights rights sound behind)
    (sendable_few s.kind k.bytes control rights b (behind_long (table_of S k.caller) control.rights rights behind))))

read_obeys : (S : State) (k : Sending) (d : ℕ) (s : Socket) (control : Option Control) → process_at S k.caller ≡ Some k.process →
    socket_at S d ≡ Some s → Call S (send_read S k d s control)
unfolding send_read
read_obeys S k d s None here h = refuses refl refl
read_obeys S k d s (Some control) here h = with_obeys S k d s control here h

reading_obeys : (S : State) (control : List ℕ) (o : Outcome) → Call S o → Call S (reading_control control o)
reading_obeys S control o obeys = record {
  own_reply = obeys.own_reply;
  refused = obeys.refused;
  failed = obeys.failed;
  fails = obeys.fails;
  reached =
      obeys.reached;
  objects = obeys.objects;
  alike = obeys.alike;
}

pub send_obeys : (S : State) (p tag : ℕ) (fd : Fd) (addr : Option Addr) (bytes control : List ℕ) (flags : MsgFlags) →
    Call S (send_msg S p tag fd addr bytes control flags)
unfolding send_msg
send_obeys S p tag fd addr bytes control flags = maybe (Call S) (process_at S p) _ _ (refuses refl refl)
    (λ P here. found_socket (Call S) S p fd _ (refuses refl refl) (refuses refl refl)
    (λ d s h. either (Call S) (not (are_send_flags flags)) _ _ (λ b. refuses refl refl)
    (λ b. reading_obeys S control _ (read_obeys S (sending tag p P addr bytes) d s (control_in control) here h))))

-- ---- receiving

-- the pending error that is answered
reset_obeys : (S : State) (d : ℕ) (s : Socket) → socket_at S d ≡ Some s → s.reset ≡ true →
    Call S (record {
      reply = Reply.Err Errno.ECONNRESET;
      next = with_socket_by S d (with_reset false);
      may_lack_memory = false;
      failure =
          None;
    })
reset_obeys S d s h pending = record {
  own_reply = refl;
  refused = λ e told. let same : Errno.ECONNRESET ≡ e = cc told in
      subst (λ g. LeftByRefusal S g (with_socket_by S d (with_reset false))) same
      (record { description = d; socket = s; there = h; was_pending = pending; left = refl });
  failed = λ T none. absurd (cc none);
  fails = λ T none. absurd (cc none);
  reached = with_socket_reached S d (with_reset false) still (λ sound t here. pending_changed S d t false);
  objects = same_objects S (with_socket_by S d (with_reset false)) refl;
  alike = λ n was. refl;
}

nothing_obeys : (S : State) (d : ℕ) (s : Socket) (peer : ℕ) → socket_at S d ≡ Some s → Call S (receive_nothing S d s peer)
nothing_obeys S d s peer h = either (Call S) s.reset _ _ (λ b. reset_obeys S d s h b)
    (λ b. either (Call S) (at_end S s peer) _ _ (λ b. answers refl refl refl refl still) (λ b. refuses refl refl))

-- descriptors of what is there are installed
installed_names : (S : State) (old table : List (Option Descriptor)) (cloexec : Bool) (ns ds : List ℕ) → NamesNoneGone S ds →
    NamesWhatIsThere S old table →
    NamesWhatIsThere S old (installed cloexec ns ds table)
installed_names S old table cloexec [] ds none names = names
installed_names S old table cloexec (n ∷ ns) [] none names = names
installed_names S old table cloexec (n ∷ ns) (d ∷ ds) none names =
    installed_names S old _ cloexec ns ds (λ k gone. let both = counted k in let z : times k (d ∷ ds) ≡ 0 = none k gone in
    omega (arith, both, z))
    (put_names S old table n (record { description = d; cloexec = cloexec }) (there (is_some (description_at S d)) refl) names)
  where
    counted : (k : ℕ) → times k (d ∷ ds) ≡ cond {A = ℕ} (d == k) 1 0 + times k ds
    counted k = sum_by-cons (λ d. cond {A = ℕ} (d == k) 1 0) d ds

    there : (b : Bool) → is_some (description_at S d) ≡ b → is_some (description_at S d) ≡ true
    there true h = h
    there false h =
        let both = counted d in
        let one : cond {A = ℕ} (d == d) 1 0 ≡ 1 = ap (λ b. cond {A = ℕ} b 1 0) (eq-eqb d d refl) in
        let z : times d (d ∷ ds) ≡ 0 = none d h in
        absurd (omega (arith, both, one, z))

-- something refers to what comes with the bytes
pub front_counts : (S : State) (d n k : ℕ) (s : Socket) (m : Message) (ms : List Message) → socket_at S d ≡ Some s → s.queue ≡ m ∷ ms →
    times k (front_of n s m ms).rights ≤ refs S k
front_counts S d n k s m ms h q =
    let parts = front_of_refs k n s m ms in
    let all : queue_refs k s.queue ≡ queue_refs k (m ∷ ms) = ap (queue_refs k) q in
    let counted = socket_counted S d k s h in
    omega (arith, parts, all, counted)

-- so where nothing dangles it is there
front_there : (S : State) (d n : ℕ) (s : Socket) (m : Message) (ms : List Message) → socket_at S d ≡ Some s → s.queue ≡ m ∷ ms → IsSound S →
    NamesNoneGone S (front_of n s m ms).rights
front_there S d n s m ms h q sound k gone =
    let counted = front_counts S d n k s m ms h q in
    let none : refs S k ≡ 0 = sound.held.no_description_dangles k gone in
    omega (arith, counted, none)

front_obeys : (S : State) (p d : ℕ) (s : Socket) (asked : Incoming) (m : Message) (ms : List Message) → socket_at S d ≡ Some s →
    s.queue ≡ m ∷ ms →
    Call S (receive_front S p d s asked (front_of asked.n s m ms))
unfolding receive_front
front_obeys S p d s asked m ms h q = answers refl refl refl (same (asks_peek asked.flags)) (peeked (asks_peek asked.flags))
  where
    front : Front
    front = front_of asked.n s m ms

    T : State
    T = with_installed S p asked.flags front (delivery s.passcred front.cred front.rights asked.space (table_of S p))

    alike : T.descriptions ≡ S.descriptions
    alike = same_descriptions S p _

    same : (b : Bool) → (if b then T else with_socket_by T d (with_queue front.rest)).objects ≡ S.objects
    same true = with_table_objects S p _
    same false = with_table_objects S p _

    delivered : Reaches S tables_alone T
    delivered = with_table_reached S p _ still
        (λ sound. installed_names S (table_of S p) (table_of S p) (asks_cloexec_rights asked.flags) _ front.rights
        (front_there S d asked.n s m ms h q sound) (same_names S (table_of S p)))

    same_as : (t : Socket) → socket_at T d ≡ Some t → s ≡ t
    same_as t here =
        let there : socket_at S d ≡ Some t = ap (λ ds. socket_at (record S { descriptions = ds }) d) (sym alike) ∙ here in
        cc (sym h ∙ there)

    fewer : (t : Socket) → socket_at T d ≡ Some t → (k : ℕ) → queue_refs k front.rest ≤ queue_refs k t.queue
    fewer t here k =
        let all : queue_refs k t.queue ≡ queue_refs k (m ∷ ms) = ap (λ u. queue_refs k (Socket.queue u)) (sym (same_as t here))
        ∙ ap (queue_refs k) q in
        let parts = front_of_refs k asked.n s m ms in
        omega (arith, all, parts)

    fewer_flying : (t : Socket) → socket_at T d ≡ Some t → (u : ℕ) → rights_sent_by u front.rest ≤ rights_sent_by u t.queue
    fewer_flying t here u =
        let parts = front_of_flying u asked.n s m ms in
        let all : rights_sent_by u t.queue ≡ rights_sent_by u (m ∷ ms) = ap (λ w. rights_sent_by u (Socket.queue w)) (sym (same_as t here))
        ∙ ap (rights_sent_by u) q in
        omega (arith, all, parts)

    still_bounded : (t : Socket) → socket_at T d ≡ Some t → IsBounded t → HasBounds t.kind t.name t.queue_limit front.rest
    still_bounded t here own =
        let same : s ≡ t = same_as t here in
        let before : HasBounds s.kind s.name s.queue_limit (m ∷ ms) =
        subst (λ (l : List Message). HasBounds s.kind s.name s.queue_limit l) q (subst IsBounded (sym same) own) in
        subst (λ (u : Socket). HasBounds u.kind u.name u.queue_limit front.rest) same (rest_bounded asked.n s m ms before)

    peeked : (b : Bool) → Reaches S tables_alone (if b then T else with_socket_by T d (with_queue front.rest))
    peeked true = delivered
    peeked false = with_socket_reached T d (with_queue front.rest) delivered
        (λ sound t here. queue_changed T d t front.rest t.reset (λ k gone. fewer t here k) (fewer_flying t here) (still_bounded t here))

from_peer_obeys : (S : State) (p d : ℕ) (s : Socket) (asked : Incoming) → socket_at S d ≡ Some s → Call S (receive_from_peer S p d s asked)
from_peer_obeys S p d s asked h = maybe (Call S) (peer_of s.phase) _ _ (refuses refl refl)
    (λ peer is. either (Call S) (is_stream s.kind && (asked.n == 0)) _ _ (λ b. answers refl refl refl refl still)
    (λ b. by_queue (Call S) s.queue _ _ (λ none. nothing_obeys S d s peer h) (λ m ms q. front_obeys S p d s asked m ms h q)))

pub receive_obeys : (S : State) (p d : ℕ) (s : Socket) (asked : Incoming) → socket_at S d ≡ Some s → Call S (receive S p d s asked)
receive_obeys S p d s asked h = either (Call S) (is_dgram s.kind) _ _
    (λ b. by_queue (Call S) s.queue _ _ (λ none. either (Call S) s.read_shut _ _ (λ c. answers refl refl refl refl still)
    (λ c. refuses refl refl)) (λ m ms q. front_obeys S p d s asked m ms h q))
    (λ b. from_peer_obeys S p d s asked h)

pub recv_obeys : (S : State) (p : ℕ) (fd : Fd) (n space : ℕ) (flags : MsgFlags) → Call S (recv_msg S p fd n space flags)
unfolding recv_msg
recv_obeys S p fd n space flags = found_socket (Call S) S p fd _ (refuses refl refl) (refuses refl refl)
    (λ d s h. either (Call S) (not (are_receive_flags flags)) _ _ (λ b. refuses refl refl)
    (λ b. receive_obeys S p d s (incoming n space flags) h))
