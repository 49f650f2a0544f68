-- What brings input, an end or room to a socket, or takes its peer, ends the wait of a poll there.
use Rattle.std.proofs.Common.{◌≡◌, ◌≢◌, ℕ, suc, ◌==◌, Bool, true, false, not, ◌||◌, if◌then◌else◌, is_some, List, [], ◌∷◌, length, Option}
use Rattle.std.proofs.Common.{Some, None, Ok, refl, ap, sym, ◌∙◌, subst}
use Rattle.std.proofs.lemmas.Bool.{ne_eqb, or_left, or_right}
use Rattle.ux_model.specs.Types.{Fd, SockType, Request}
use Rattle.ux_model.specs.Flags.{no_flags}
use Rattle.ux_model.specs.Socket.{Socket, Phase, idle, listening, connected, associated, is_dgram, peer_of, association_of, pending_ends}
use Rattle.ux_model.specs.Socket.{takes_from, has_room}
use Rattle.ux_model.specs.Description.{Target, to_object, to_socket, socket_in}
use Rattle.ux_model.specs.Places.{place}
use Rattle.ux_model.specs.State.{State, description_at, socket_at}
use Rattle.ux_model.specs.Outcome.{find_socket}
use Rattle.ux_model.specs.Binding.{same_kind}
use Rattle.ux_model.specs.Connecting.{listener_of}
use Rattle.ux_model.specs.Readiness.{Conditions, object_conditions, by_peer, listener_conditions, stream_conditions, datagram_conditions}
use Rattle.ux_model.specs.Readiness.{socket_conditions, target_takes, readiness}
use Rattle.ux_model.specs.ReadyCalls.{moves_data}
use Rattle.ux_model.specs.Step.{Step, outcome}
use Rattle.ux_model.specs.Pedigree.{before}
use Rattle.ux_model.proofs.Lists.ChangedPlaces.{bool_cases}
use Rattle.ux_model.proofs.Messages.ReadyCalls.{tells_input}
use Rattle.ux_model.proofs.Pedigrees.Moments.{moment}
use Rattle.ux_model.proofs.Tables.Shows.{socket_found}
use Rattle.ux_laws.specs.Inputs.{IsInputOver, shut as input_shut, peer_shut as output_shut, peer_gone as other_gone}
use Rattle.ux_laws.specs.Progress.{HasInput}
use Rattle.ux_laws.specs.Rooms.{NeedsNoRoom, in_queue, shut, peer_shut, peer_gone, LetsGo, by_room as letting_room, by_sender}
use Rattle.ux_laws.specs.Rooms.{by_target as of_target, gone as target_gone}
use Rattle.ux_laws.specs.Polls.{IsToTell, input, room, end, hung_up}
use Rattle.ux_laws.specs.PollWakes.{WakesPoll, by_input, by_end, by_room, by_target, by_over, by_loss}
use Rattle.ux_laws.specs.PollWakes.{PollsAreWoken}
use Rattle.ux_laws.proofs.Acts.{Did}
use Rattle.ux_laws.proofs.Doing.Calls.{step_did}
use Rattle.ux_laws.proofs.Doing.Naming.{look_up_there}
use Rattle.ux_laws.proofs.Telling.{LeadsToSocket, leads_to_socket}
use Rattle.ux_laws.proofs.WaitEnds.{recv_waits, parts_stay}
use Rattle.ux_laws.proofs.Wakes.{both_are, not_none, input_no_wait, shut_now, inputs_end, inputs_come, ends_come}
use Rattle.ux_laws.proofs.RoomsCome.{queues_get_room, rooms_come}
use Rattle.ux_laws.proofs.Polls.{no_lost_wakeup}

-- ---- what a poll finds there

-- input, where a receive needn't wait
has_readable : (S : State) (p tag d : ℕ) (fd : Fd) (s : Socket) → find_socket S p fd ≡ Ok (d, s) → moves_data s ≡ true → HasInput S s →
    (socket_conditions S d s).readable ≡ true
unfolding outcome
has_readable S p tag d fd s found moves has = bool_cases (socket_conditions S d s).readable (λ b. b)
    (λ b. absurd (input_no_wait S d s has
    (recv_waits S p 1 0 d fd no_flags s found ((tells_input S p tag fd d s found moves).0 b))))

-- an end that waits
listens_readable : (S : State) (d : ℕ) (s : Socket) → is_dgram s.kind ≡ false → pending_ends s.phase ≢ [] →
    (socket_conditions S d s).readable ≡ true
unfolding socket_conditions
listens_readable S d s kind some =
    ap (λ b. (if b then datagram_conditions S d s else stream_conditions S s).readable) kind ∙ by_phase s.phase some
  where
    waits : (es : List ℕ) → es ≢ [] → not (length es == 0) ≡ true
    waits [] h = absurd (h refl)
    waits (e ∷ es) h = ap (λ b. not b) (ne_eqb (length (e ∷ es)) 0 (λ z. cc z))

    by_phase : (phase : Phase) → pending_ends phase ≢ [] →
        (elim (peer_of phase) as (λ _. Conditions)
        [ None ↦ listener_conditions (listener_of phase) | Some peer ↦ by_peer s (socket_at S peer) ]).readable ≡ true
    by_phase idle h = absurd (h refl)
    by_phase (listening backlog cred) h = waits backlog.pending h
    by_phase (connected peer) h = absurd (h refl)
    by_phase (associated target) h = absurd (h refl)

-- the conditions of a connected socket
connected_is : (S : State) (d peer : ℕ) (s : Socket) → is_dgram s.kind ≡ false → peer_of s.phase ≡ Some peer →
    socket_conditions S d s ≡ by_peer s (socket_at S peer)
unfolding socket_conditions
connected_is S d peer s kind to =
    ap (λ b. if b then datagram_conditions S d s else stream_conditions S s) kind
    ∙ ap (λ (o : Option ℕ). elim o as (λ _. Conditions)
    [ None ↦ listener_conditions (listener_of s.phase) | Some q ↦ by_peer s (socket_at S q) ]) to

-- a socket has one peer
peer_is : (S : State) (peer : ℕ) (s : Socket) → peer_of s.phase ≡ Some peer → (other : Socket) → socket_at S peer ≡ Some other →
    (q : ℕ) (u : Socket) → peer_of s.phase ≡ Some q → socket_at S q ≡ Some u → u ≡ other
peer_is S peer s to other at q u tied there = both_are there (ap (λ (i : ℕ). socket_at S i) (both_are tied to) ∙ at)

needs_writable : (S : State) (d peer : ℕ) (s : Socket) → is_dgram s.kind ≡ false → peer_of s.phase ≡ Some peer → NeedsNoRoom S s →
    (socket_conditions S d s).writable ≡ true
needs_writable S d peer s kind to needs =
    ap (λ (c : Conditions). c.writable) (connected_is S d peer s kind to) ∙ by_other (socket_at S peer) refl needs
  where
    by_other : (x : Option Socket) → socket_at S peer ≡ x → NeedsNoRoom S s → (by_peer s x).writable ≡ true
    by_other None at needs = refl
    by_other (Some other) at (in_queue q u tied there free) =
        or_left (has_room other || s.write_shut) other.read_shut (or_left (has_room other) s.write_shut
        (sym (ap (λ (v : Socket). has_room v) (peer_is S peer s to other at q u tied there)) ∙ free))
    by_other (Some other) at (shut h) =
        or_left (has_room other || s.write_shut) other.read_shut (or_right (has_room other) s.write_shut h)
    by_other (Some other) at (peer_shut q u tied there h) =
        or_right (has_room other || s.write_shut) other.read_shut
        (sym (ap (λ (v : Socket). v.read_shut) (peer_is S peer s to other at q u tied there)) ∙ h)
    by_other (Some other) at (peer_gone q tied gone) =
        absurd (not_none at (ap (λ (i : ℕ). socket_at S i) (both_are to tied) ∙ ap socket_in gone))

over_hung : (S : State) (d peer : ℕ) (s : Socket) → is_dgram s.kind ≡ false → peer_of s.phase ≡ Some peer → IsInputOver S s →
    (socket_conditions S d s).read_hung ≡ true
over_hung S d peer s kind to over =
    ap (λ (c : Conditions). c.read_hung) (connected_is S d peer s kind to) ∙ by_other (socket_at S peer) refl over
  where
    by_other : (x : Option Socket) → socket_at S peer ≡ x → IsInputOver S s → (by_peer s x).read_hung ≡ true
    by_other None at over = refl
    by_other (Some other) at (input_shut h) = or_left s.read_shut other.write_shut h
    by_other (Some other) at (output_shut q u tied there h) = or_right s.read_shut other.write_shut
        (sym (ap (λ (v : Socket). v.write_shut) (peer_is S peer s to other at q u tied there)) ∙ h)
    by_other (Some other) at (other_gone q tied gone) =
        absurd (not_none at (ap (λ (i : ℕ). socket_at S i) (both_are to tied) ∙ ap socket_in gone))

-- nobody is there any more
lost_hung : (S : State) (d peer : ℕ) (s : Socket) → is_dgram s.kind ≡ false → peer_of s.phase ≡ Some peer → description_at S peer ≡ None →
    (socket_conditions S d s).hung ≡ true
lost_hung S d peer s kind to gone = ap (λ (c : Conditions). c.hung)
    (connected_is S d peer s kind to ∙ ap (λ (o : Option Socket). by_peer s o) (ap socket_in gone))

-- a datagram goes to the target, or is refused
target_writable : (S : State) (d number : ℕ) (s : Socket) → is_dgram s.kind ≡ true → association_of s.phase ≡ Some number →
    ((u : Socket) → socket_at S number ≡ Some u → target_takes d s (Some u) ≡ true) → (socket_conditions S d s).writable ≡ true
unfolding socket_conditions
target_writable S d number s kind to takes =
    ap (λ b. (if b then datagram_conditions S d s else stream_conditions S s).writable) kind
    ∙ ap (λ (o : Option ℕ). elim o as (λ _. Bool) [ None ↦ true | Some t ↦ target_takes d s (socket_at S t) ]) to
    ∙ by_place (socket_at S number) refl
  where
    by_place : (x : Option Socket) → socket_at S number ≡ x → target_takes d s x ≡ true
    by_place None is = refl
    by_place (Some u) is = takes u is

-- ---- the law

pub polls_are_woken : PollsAreWoken
polls_are_woken boot es j i d e next fds waits asked s t legal at here next_at request asks found wakes =
    no_lost_wakeup T (before boot es (suc (suc j))) next.pid.0 (suc j) i fds waits asked next.reply next.released asks (to_tell wakes)
    (subst (λ (r : Request). Step T next.pid.0 (suc j) r next.reply next.released (before boot es (suc (suc j)))) request
    (moment boot es (suc j) next legal next_at).steps)
  where
    S : State
    S = before boot es j

    T : State
    T = before boot es (suc j)

    there : socket_at T d ≡ Some t
    there = socket_found T next.pid.0 d asked.fd t found

    did : Did S e.pid.0 j e.request e.reply T
    did = step_did S T e.pid.0 j e.request e.reply e.released (moment boot es j e legal at).steps

    parts : (t.kind ≡ s.kind) × ((peer : ℕ) → peer_of s.phase ≡ Some peer → peer_of t.phase ≡ Some peer)
    parts = parts_stay S T e.pid.0 j d e.request e.reply s t did here there

    kind_stays : (b : Bool) → is_dgram s.kind ≡ b → is_dgram t.kind ≡ b
    kind_stays b k = ap is_dgram parts.0 ∙ k

    still_moves : moves_data s ≡ true → moves_data t ≡ true
    still_moves h = by_kind (is_dgram s.kind) refl h
      where
        tied : (o : Option ℕ) → peer_of s.phase ≡ o → is_some o ≡ true → is_some (peer_of t.phase) ≡ true
        tied None is k = absurd (cc k)
        tied (Some peer) is k = ap is_some (parts.1 peer is)

        by_kind : (b : Bool) → is_dgram s.kind ≡ b → (b || is_some (peer_of s.phase)) ≡ true → moves_data t ≡ true
        by_kind true is k = or_left (is_dgram t.kind) _ (kind_stays true is)
        by_kind false is k = or_right (is_dgram t.kind) _ (tied (peer_of s.phase) refl k)

    l : LeadsToSocket T next.pid.0 asked.fd d t
    l = leads_to_socket T next.pid.0 d asked.fd t found

    -- what the poll finds are the conditions of the socket
    finds : readiness T l.entry.description l.description ≡ socket_conditions T d t
    finds = ap (λ (x : Target). elim x as (λ _. Conditions) [
      | to_object o ↦ object_conditions T l.description o (place T.objects o)
      | to_socket u ↦ socket_conditions T l.entry.description u
    ]) l.leads
        ∙ ap (λ (n : ℕ). socket_conditions T n t) l.number

    readable : (socket_conditions T d t).readable ≡ true → (readiness T l.entry.description l.description).readable ≡ true
    readable h = ap (λ (c : Conditions). c.readable) finds ∙ h

    writable : (socket_conditions T d t).writable ≡ true → (readiness T l.entry.description l.description).writable ≡ true
    writable h = ap (λ (c : Conditions). c.writable) finds ∙ h

    goes : (number : ℕ) (u : Socket) → socket_at T number ≡ Some u → LetsGo S e d number T → target_takes d t (Some u) ≡ true
    goes number u now (letting_room target was makes) =
        or_right (t.write_shut || not (takes_from d u.phase) || u.read_shut) (has_room u)
        (queues_get_room boot es j number e target u legal at was makes now)
    goes number u now (by_sender fd how is answered may behind) =
        or_left (t.write_shut || not (takes_from d u.phase) || u.read_shut) (has_room u)
        (or_left (t.write_shut || not (takes_from d u.phase)) u.read_shut (or_left t.write_shut (not (takes_from d u.phase))
        ((shut_now boot es j d e fd how t legal at is answered behind there).1 may)))
    goes number u now (of_target fd how is answered may behind) =
        or_left (t.write_shut || not (takes_from d u.phase) || u.read_shut) (has_room u)
        (or_right (t.write_shut || not (takes_from d u.phase)) u.read_shut
        ((shut_now boot es j number e fd how u legal at is answered behind now).0 may))
    goes number u now (target_gone none) = absurd (not_none now (ap socket_in none))

    to_tell : WakesPoll S e d s T t asked.events → IsToTell T next.pid.0 asked
    to_tell (by_input wants moves brings) = input l.entry l.description l.found wants (readable
        (has_readable T next.pid.0 (suc j) d asked.fd t found (still_moves moves)
        (inputs_come boot es j d e s t legal at here brings there)))
    to_tell (by_end c fd addr client wants is answered through kind led) =
        let same = (look_up_there S client.kind addr d s led).1 in
        input l.entry l.description l.found wants (readable
        (listens_readable T d t (kind_stays false (no_dgram client.kind s.kind same kind))
        (ends_come boot es j c d e fd addr client s t legal at is answered through kind led there)))
      where
        no_dgram : (a b : SockType) → same_kind a b ≡ true → is_dgram a ≡ false → is_dgram b ≡ false
        no_dgram SockType.Stream SockType.Stream h k = refl
        no_dgram SockType.Stream SockType.Dgram h k = absurd (cc h)
        no_dgram SockType.Stream SockType.Seq h k = refl
        no_dgram SockType.Dgram b h k = absurd (cc k)
        no_dgram SockType.Seq SockType.Stream h k = refl
        no_dgram SockType.Seq SockType.Dgram h k = absurd (cc h)
        no_dgram SockType.Seq SockType.Seq h k = refl
    to_tell (by_room peer wants kind to brings) = room l.entry l.description l.found wants (writable
        (needs_writable T d peer t (kind_stays false kind) (parts.1 peer to) (rooms_come boot es j d e s t legal at here brings there)))
    to_tell (by_target number wants kind to lets) = room l.entry l.description l.found wants (writable
        (target_writable T d number t (kind_stays true kind) to (λ u now. goes number u now lets)))
    to_tell (by_over peer wants kind to ends) = end l.entry l.description l.found wants (ap (λ (c : Conditions). c.read_hung) finds
        ∙ over_hung T d peer t (kind_stays false kind) (parts.1 peer to) (inputs_end boot es j d e s t legal at here ends there).0)
    to_tell (by_loss peer kind to gone) = hung_up l.entry l.description l.found
        (ap (λ (c : Conditions). c.hung) finds ∙ lost_hung T d peer t (kind_stays false kind) (parts.1 peer to) gone)
