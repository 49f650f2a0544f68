-- What is ready is ready in both.
use Rattle.std.proofs.Common.{◌≡◌, ℕ, ◌-◌, ◌≤◌, ◌==◌, Bool, true, false, not, ◌&&◌, ◌||◌, cond, if◌then◌else◌, List, [], ◌∷◌, map}
use Rattle.std.proofs.Common.{length}
use Rattle.std.proofs.Common.{Option, Some, None, refl, ap, sym, ◌∙◌, subst, arith, slice_get}
use Rattle.std.specs.Prelude.{nat_lt}
use Rattle.std.proofs.lemmas.Bool.{eqb-true, false≢true}
use Rattle.ux_model.specs.Types.{Fd, Mode, PollFd, PollFds, PollFlags, Reply}
use Rattle.ux_model.specs.Places.{place}
use Rattle.ux_model.specs.Limits.{poll_limit, record_limit}
use Rattle.ux_model.specs.Flags.{can_read, can_write}
use Rattle.ux_model.specs.Object.{View, ready, is_pipe}
use Rattle.ux_model.specs.Message.{Message, queued_bytes}
use Rattle.ux_model.specs.Socket.{Socket, Phase, idle, listening, connected, associated, is_stream, is_dgram, peer_of, tied_socket}
use Rattle.ux_model.specs.Socket.{association_of, takes_from, has_room}
use Rattle.ux_model.specs.Description.{Description, Target, to_object, to_socket}
use Rattle.ux_model.specs.Process.{Descriptor}
use Rattle.ux_model.specs.State.{State, description_at, socket_at}
use Rattle.ux_model.specs.References.{leads_to}
use Rattle.ux_model.specs.Outcome.{Outcome, answer, descriptor_at}
use Rattle.ux_model.specs.FileObjects.{is_opening, openings, is_open_for}
use Rattle.ux_model.specs.Connecting.{listener_of}
use Rattle.ux_model.specs.Readiness.{Conditions, poll_flags, not_open, by_peer, listener_conditions}
use Rattle.ux_model.specs.Readiness.{stream_conditions, target_takes, sends_at_once, datagram_conditions, socket_conditions}
use Rattle.ux_model.specs.Readiness.{file_conditions}
use Rattle.ux_model.specs.Readiness.{object_conditions, readiness, flags_at, poll}
use Rattle.ux_model.specs.Polling.{reported, reported_at, revents, some_ready, tell_found, poll_many}
use Rattle.ux_model.proofs.Lists.ChangedPlaces.{bool_cases}
use Rattle.ux_laws.specs.Apartness.{Sides, SocketIsOn, TargetIsOn, untold, shown_as, shown_at}
use Rattle.ux_laws.proofs.Aside.Counting.{counts, sums_least, at_place}
use Rattle.ux_laws.proofs.Aside.Rounds.{tied_peer}
use Rattle.ux_laws.proofs.Aside.Twins.{Twins, other_way, both_shown, none_shown, target_cases, socket_cases, object_cases}
use Rattle.ux_laws.proofs.Aside.Settling.{same_length}
use Rattle.ux_laws.proofs.Aside.Agreeing.{Agrees, refused, answered, both, same_table, own_table}
use Rattle.ux_laws.proofs.Aside.Sockets.{by_untold, same_bytes}

-- ---- who has a file object open

abbrev opens : (Mode → Bool) → ℕ → Option Description → ℕ
opens allows o x = cond (is_opening allows o x) 1 0

-- that of the other side leads elsewhere
none_elsewhere : (sides : Sides) (allows : Mode → Bool) (o : ℕ) (D : Description) → sides.object o ≡ true →
    TargetIsOn sides false D.target → opens allows o (Some D) ≡ 0
none_elsewhere sides allows o D mine on = go D.target on
  where
    go : (t : Target) → TargetIsOn sides false t → cond {A = ℕ} (leads_to o t && allows D.mode) 1 0 ≡ 0
    go (to_object k) on = bool_cases (k == o)
        (λ same. absurd (false≢true (sym on ∙ ap sides.object (eqb-true k o same) ∙ mine)))
        (λ other. ap (λ b. cond {A = ℕ} (b && allows D.mode) 1 0) other)
    go (to_socket s) on = refl

opens_shown : (allows : Mode → Bool) (o : ℕ) (S T : State) (d : ℕ) → shown_at T d ≡ shown_at S d →
    opens allows o (description_at T d) ≡ opens allows o (description_at S d)
opens_shown allows o S T d shown = go (description_at S d) refl
  where
    go : (x : Option Description) → description_at S d ≡ x → opens allows o (description_at T d) ≡ opens allows o (description_at S d)
    go None is = ap (opens allows o) (none_shown S T d shown is) ∙ sym (ap (opens allows o) is)
    go (Some D) is =
        let w = both_shown S T d D shown is in
        ap (opens allows o) w.1
        ∙ target_cases (λ (D E : Description). opens allows o (Some E) ≡ opens allows o (Some D)) S T D w.0 w.2
        (λ k at led body. refl) (λ s q at led same. refl)
        ∙ sym (ap (opens allows o) is)

openings_least : (sides : Sides) (allows : Mode → Bool) (o : ℕ) (S T : State) → Twins sides S T → sides.object o ≡ true →
    openings allows S o ≤ openings allows T o
openings_least sides allows o S T twins mine = sums_least (opens allows o) S.descriptions T.descriptions (λ i. by_place i)
  where
    none : (d : ℕ) (x : Option Description) → description_at S d ≡ x → sides.description d ≡ false → opens allows o x ≡ 0
    none d None is other = refl
    none d (Some D) is other = none_elsewhere sides allows o D mine
        (subst (λ b. TargetIsOn sides b D.target) other (twins.left.descriptions d D is))

    at_one : (d : ℕ) → opens allows o (description_at S d) ≤ opens allows o (description_at T d)
    at_one d = bool_cases (sides.description d)
        (λ on. let same = opens_shown allows o S T d (twins.descriptions d on) in omega (arith, same))
        (λ off. let zero = none d (description_at S d) refl off in omega (arith, zero))

    by_place : (i : ℕ) → counts (opens allows o) (slice_get S.descriptions i) ≤ counts (opens allows o) (slice_get T.descriptions i)
    by_place i =
        let old = at_place (opens allows o) S.descriptions i refl in
        let new = at_place (opens allows o) T.descriptions i refl in
        let one = at_one i in
        omega (arith, old, new, one)

pub open_alike : {sides : Sides} (allows : Mode → Bool) (o : ℕ) (S T : State) → Twins sides S T → sides.object o ≡ true →
    is_open_for allows T o ≡ is_open_for allows S o
open_alike {sides} allows o S T twins mine =
    let more = openings_least sides allows o S T twins mine in
    let less = openings_least sides allows o T S (other_way twins) mine in
    let same : openings allows T o ≡ openings allows S o = omega (arith, more, less) in
    ap (λ n. nat_lt 0 n) same

-- ---- sockets

pub room_alike : (s : Socket) (q : List Message) → map untold q ≡ map untold s.queue → has_room (record s { queue = q }) ≡ has_room s
room_alike s q same =
    ap (λ n. if is_stream s.kind then not (s.queue_limit - n == 0) else nat_lt (length q) record_limit)
    (by_untold queued_bytes same_bytes q s.queue same)
    ∙ ap (λ n. if is_stream s.kind then not (s.queue_limit - queued_bytes s.queue == 0) else nat_lt n record_limit)
    (by_untold length same_length q s.queue same)

pub tied_target : (phase : Phase) (t : ℕ) → association_of phase ≡ Some t → tied_socket phase ≡ Some t
tied_target idle t h = absurd (cc h)
tied_target (listening backlog cred) t h = absurd (cc h)
tied_target (connected peer) t h = absurd (cc h)
tied_target (associated target) t h = h

datagram_alike : {sides : Sides} (S T : State) (d : ℕ) (s : Socket) (q : List Message) → Twins sides S T → SocketIsOn sides true s →
    map untold q ≡ map untold s.queue → datagram_conditions T d (record s { queue = q }) ≡ datagram_conditions S d s
datagram_alike {sides} S T d s q twins on same =
    ap (λ (n : ℕ). made n (sends_at_once T d s)) (by_untold length same_length q s.queue same)
    ∙ ap (made (length s.queue)) (at_once (association_of s.phase) refl)
  where
    made : ℕ → Bool → Conditions
    made n b = record {
      readable = not (n == 0) || s.read_shut;
      writable = b;
      read_hung = false;
      hung = false;
      failed = false;
    }

    by_target : State → Option ℕ → Bool
    by_target U x = elim x as (λ _. Bool) [ None ↦ true | Some t ↦ target_takes d s (socket_at U t) ]

    at_once : (x : Option ℕ) → association_of s.phase ≡ x → by_target T x ≡ by_target S x
    at_once None is = refl
    at_once (Some t) is = socket_cases (λ x y. target_takes d s y ≡ target_takes d s x) S T t
        (twins.descriptions t (on.tied t (tied_target s.phase t is))) refl
        (λ u r here there alike. ap (λ b. s.write_shut || not (takes_from d u.phase) || u.read_shut || b) (room_alike u r alike))

stream_alike : {sides : Sides} (S T : State) (s : Socket) (q : List Message) → Twins sides S T → SocketIsOn sides true s →
    map untold q ≡ map untold s.queue → stream_conditions T (record s { queue = q }) ≡ stream_conditions S s
stream_alike {sides} S T s q twins on same = go (peer_of s.phase) refl
  where
    by_end : State → Socket → Option ℕ → Conditions
    by_end U u x = elim x as (λ _. Conditions) [
      | None ↦ listener_conditions (listener_of u.phase)
      | Some peer ↦ by_peer u
          (socket_at U peer)
    ]

    connected_by : ℕ → Bool → Socket → Conditions
    connected_by n room other = record {
      readable = not (n == 0) || s.reset || (s.read_shut || other.write_shut);
      writable = room || s.write_shut || other.read_shut;
      read_hung = s.read_shut || other.write_shut;
      hung = s.read_shut && s.write_shut;
      failed = s.reset;
    }

    go : (x : Option ℕ) → peer_of s.phase ≡ x → by_end T (record s { queue = q }) x ≡ by_end S s x
    go None is = refl
    go (Some peer) is = socket_cases (λ x y. by_peer (record s { queue = q }) y ≡ by_peer s x) S T peer
        (twins.descriptions peer (on.tied peer (tied_peer s.phase peer is))) refl
        (λ u r here there alike. ap (λ (n : ℕ). connected_by n (has_room (record u { queue = r })) u)
        (by_untold length same_length q s.queue same)
        ∙ ap (λ b. connected_by (length s.queue) b u) (room_alike u r alike))

socket_alike : {sides : Sides} (S T : State) (d : ℕ) (s : Socket) (q : List Message) → Twins sides S T → SocketIsOn sides true s →
    map untold q ≡ map untold s.queue → socket_conditions T d (record s { queue = q }) ≡ socket_conditions S d s
unfolding socket_conditions
socket_alike S T d s q twins on same =
    ap (λ c. if is_dgram s.kind then c else stream_conditions T (record s { queue = q })) (datagram_alike S T d s q twins on same)
    ∙ ap (λ c. if is_dgram s.kind then datagram_conditions S d s else c) (stream_alike S T s q twins on same)

file_alike : {sides : Sides} (S T : State) (D : Description) (o : ℕ) (view : View) (opened : Bool) (faults : ℕ) → Twins sides S T →
    sides.object o ≡ true →
    file_conditions T D o (record view { opened = opened; faults = faults }) ≡ file_conditions S D o view
unfolding file_conditions
file_alike S T D o view opened faults twins mine = ap (λ b. made b (is_open_for can_read T o)) (open_alike can_write o S T twins mine)
    ∙ ap (λ b. made (is_open_for can_write S o) b) (open_alike can_read o S T twins mine)
  where
    made : Bool → Bool → Conditions
    made writers readers = record {
      readable = can_read D.mode && (ready view.body).0;
      writable = can_write D.mode && (ready view.body).1;
      read_hung = false;
      hung = is_pipe view.body && (can_read D.mode && not writers);
      failed = is_pipe view.body && (can_write D.mode && not readers);
    }

pub ready_alike : {sides : Sides} (S T : State) (d : ℕ) (D E : Description) → Twins sides S T → sides.description d ≡ true →
    description_at S d ≡ Some D → description_at T d ≡ Some E → shown_as T E ≡ shown_as S D → readiness T d E ≡ readiness S d D
ready_alike {sides} S T d D E twins mine here there shown =
    target_cases (λ (D E : Description). readiness T d E ≡ readiness S d D) S T D E shown
    (λ o is led body. object_cases (λ x y. object_conditions T (record D { target = to_object o }) o y
    ≡ object_conditions S (record D { target = to_object o }) o x) S T o body refl
    (λ view opened faults held held_too. file_alike S T (record D { target = to_object o }) o view opened faults twins
    (subst (λ (t : Target). TargetIsOn sides true t) is (subst (λ b. TargetIsOn sides b D.target) mine
    (twins.left.descriptions d D here)))))
    (λ s q is led same. socket_alike S T d s q twins
    (subst (λ (t : Target). TargetIsOn sides true t) is (subst (λ b. TargetIsOn sides b D.target) mine
    (twins.left.descriptions d D here))) same)

-- ---- poll(2)

reported_alike : {sides : Sides} (S T : State) (d : ℕ) (events : PollFlags) → Twins sides S T → sides.description d ≡ true →
    reported_at T d events ≡ reported_at S d events
reported_alike {sides} S T d events twins mine = go (description_at S d) refl
  where
    tell : State → Option Description → PollFlags
    tell U x = elim x as (λ _. PollFlags) [ None ↦ not_open | Some D ↦ poll_flags (reported events (readiness U d D)) ]

    go : (x : Option Description) → description_at S d ≡ x → tell T (description_at T d) ≡ tell S (description_at S d)
    go None is = ap (tell T) (none_shown S T d (twins.descriptions d mine) is) ∙ sym (ap (tell S) is)
    go (Some D) is =
        let w = both_shown S T d D (twins.descriptions d mine) is in
        ap (tell T) w.1 ∙ ap (λ (c : Conditions). poll_flags (reported events c)) (ready_alike S T d D w.0 twins mine is w.1 w.2)
        ∙ sym (ap (tell S) is)

flags_alike : {sides : Sides} (S T : State) (d : ℕ) → Twins sides S T → sides.description d ≡ true → flags_at T d ≡ flags_at S d
flags_alike {sides} S T d twins mine = go (description_at S d) refl
  where
    tell : State → Option Description → PollFlags
    tell U x = elim x as (λ _. PollFlags) [ None ↦ not_open | Some D ↦ poll_flags (readiness U d D) ]

    go : (x : Option Description) → description_at S d ≡ x → tell T (description_at T d) ≡ tell S (description_at S d)
    go None is = ap (tell T) (none_shown S T d (twins.descriptions d mine) is) ∙ sym (ap (tell S) is)
    go (Some D) is =
        let w = both_shown S T d D (twins.descriptions d mine) is in
        ap (tell T) w.1 ∙ ap (λ (c : Conditions). poll_flags c) (ready_alike S T d D w.0 twins mine is w.1 w.2) ∙ sym (ap (tell S) is)

pub poll_agrees : {sides : Sides} (S T : State) (p : ℕ) (fd : Fd) → Twins sides S T → sides.process p ≡ true →
    Agrees sides (poll S p fd) (poll T p fd)
unfolding poll
poll_agrees {sides} S T p fd twins mine =
    subst (λ (t : List (Option Descriptor)). Agrees sides (tell S (descriptor_at S p fd)) (tell T (place t fd.0)))
    (sym (same_table p twins mine)) (go (descriptor_at S p fd) refl)
  where
    tell : State → Option Descriptor → Outcome
    tell U x = elim x as (λ _. Outcome) [
      | None ↦ answer (Reply.Poll not_open) U
      | Some e ↦ answer (Reply.Poll (flags_at U e.description)) U
    ]

    go : (x : Option Descriptor) → descriptor_at S p fd ≡ x → Agrees sides (tell S x) (tell T x)
    go None is = answered _ _ refl twins
    go (Some e) is = answered _ _ (ap Reply.Poll (flags_alike S T e.description twins (own_table p twins mine fd.0 e is))) twins

pub poll_many_agrees : {sides : Sides} (S T : State) (p : ℕ) (fds : PollFds) (waits : Bool) → Twins sides S T → sides.process p ≡ true →
    Agrees sides (poll_many S p fds waits) (poll_many T p fds waits)
unfolding poll_many
poll_many_agrees {sides} S T p fds waits twins mine = both Q (nat_lt poll_limit (length fds)) _ _ _ _ _ refl (λ b. refused twins)
    (λ b. subst (λ (found : List PollFlags). Q (tell_found S waits (map (revents S p) fds)) (tell_found T waits found)) (sym
    (all_alike fds))
    (both Q (waits && not (some_ready (map (revents S p) fds))) _ _ _ _ _ refl (λ c. refused twins) (λ c. answered _ _ refl twins)))
  where
    Q : Outcome → Outcome → Type 0
    Q = Agrees sides

    one_alike : (asked : PollFd) → revents T p asked ≡ revents S p asked
    one_alike asked = ap (λ (t : List (Option Descriptor)). tell T (place t asked.fd.0)) (same_table p twins mine)
        ∙ go (descriptor_at S p asked.fd) refl
      where
        tell : State → Option Descriptor → PollFlags
        tell U x = elim x as (λ _. PollFlags) [ None ↦ not_open | Some e ↦ reported_at U e.description asked.events ]

        go : (x : Option Descriptor) → descriptor_at S p asked.fd ≡ x → tell T x ≡ tell S x
        go None is = refl
        go (Some e) is = reported_alike S T e.description asked.events twins (own_table p twins mine asked.fd.0 e is)

    all_alike : (asked : List PollFd) → map (revents T p) asked ≡ map (revents S p) asked
    all_alike [] = refl
    all_alike (a ∷ more) = ap (λ (f : PollFlags). f ∷ map (revents T p) more) (one_alike a)
        ∙ ap (λ (fs : List PollFlags). revents S p a ∷ fs) (all_alike more)
