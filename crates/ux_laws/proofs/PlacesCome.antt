-- What brings a place to a listener, and so ends a wait to connect.
use Rattle.std.proofs.Common.{◌≡◌, ℕ, suc, ◌<◌, ◌≤◌, ◌==◌, Bool, true, false, cond, is_some, List, [], ◌∷◌, length, drop, Option}
use Rattle.std.proofs.Common.{Some, None, Ok, option_map, refl, ap, sym, ◌∙◌, subst, slice_get, arith}
use Rattle.std.specs.Prelude.{is_none, ℤ}
use Rattle.ux_model.specs.Types.{Fd, Cred, Addr, OpenFlags, Request, Reply}
use Rattle.ux_model.specs.Places.{filled, place}
use Rattle.ux_model.specs.Names.{is_unnamed_addr}
use Rattle.ux_model.specs.Backlog.{backlog_of}
use Rattle.ux_model.specs.Socket.{Socket, Phase, idle, listening, connected, associated, is_dgram, pending_ends, peer_of}
use Rattle.ux_model.specs.Description.{Description, socket_in, changed}
use Rattle.ux_model.specs.Process.{own_cred, lowest_free, descriptor}
use Rattle.ux_model.specs.State.{State, process_at, description_at, socket_at, table_of, with_description_by, with_socket_by, with_table}
use Rattle.ux_model.specs.Outcome.{Outcome, find_socket}
use Rattle.ux_model.specs.Connecting.{Listener, listener_of, with_listening, listen}
use Rattle.ux_model.specs.Accepting.{accept_first, accept, phase_without_first_end, without_first_end, as_accepted, accepted_with}
use Rattle.ux_model.specs.Accepting.{with_accepted}
use Rattle.ux_model.specs.Release.{settled}
use Rattle.ux_model.specs.Step.{Step, outcome}
use Rattle.ux_model.specs.Pedigree.{before}
use Rattle.ux_model.proofs.Changes.Walk.{either, maybe}
use Rattle.ux_model.proofs.Lists.ChangedPlaces.{place-changed}
use Rattle.ux_model.proofs.Steps.NameCalls.{same_descriptions}
use Rattle.ux_model.proofs.Pedigrees.Moments.{moment}
use Rattle.ux_model.proofs.Tables.Shows.{socket_found}
use Rattle.ux_laws.specs.Credentials.{socket_behind}
use Rattle.ux_laws.specs.Rooms.{HasPlace, BringsPlace, by_accept, by_listen, PlacesCome}
use Rattle.ux_laws.proofs.LeftAlone.{Lost, settled_lost}
use Rattle.ux_laws.proofs.SendWaits.{at_found}
use Rattle.ux_laws.proofs.Wakes.{both_are, changed_in, socket_changed, left_part, answered_own, ok_own, behind_found}

-- ---- accept

-- how an accept that takes an end goes
abbrev Takes : State → ℕ → ℕ → OpenFlags → Socket → State → Type 0
Takes S p d flags s U = (n : ℕ) × (e : ℕ) × (slice_get (pending_ends s.phase) 0 ≡ Some e)
    × (U ≡ with_accepted S (record { process = p; number = n; flags = flags; listener = d; oldest = e }))

accept_takes : (S : State) (p d : ℕ) (fd n : Fd) (flags : OpenFlags) (name : Addr) (s : Socket) → find_socket S p fd ≡ Ok (d, s) →
    (accept S p fd flags).reply ≡ Reply.Accepted n name → Takes S p d flags s (accept S p fd flags).next
unfolding accept
accept_takes S p d fd n flags name s found = at_found Q S p d fd s _ found
    (either Q (is_dgram s.kind) _ _ (λ a h. absurd (cc h))
    (λ a. either Q (is_none (listener_of s.phase)) _ _ (λ b h. absurd (cc h))
    (λ b. maybe Q (lowest_free (table_of S p)) _ _ (λ h. absurd (cc h))
    (λ k low. oldest k (slice_get (pending_ends s.phase) 0) refl))))
  where
    Q : Outcome → Type 0
    Q o = o.reply ≡ Reply.Accepted n name → Takes S p d flags s o.next

    oldest : (k : ℕ) (o : Option ℕ) → slice_get (pending_ends s.phase) 0 ≡ o → Q (accept_first S p k d flags o)
    oldest k None is h = absurd (cc h)
    oldest k (Some e) is h = (k, e, is, refl)

-- the listener keeps its phase where the end is marked as accepted
marked_phase : (S : State) (e d : ℕ) (flags : OpenFlags) (s : Socket) → socket_at S d ≡ Some s →
    (u : Socket) × (socket_at (with_description_by S e (accepted_with flags)) d ≡ Some u) × (u.phase ≡ s.phase)
marked_phase S e d flags s here =
    let w = by_place (e == d) in (w.0, ap socket_in (place-changed S.descriptions e d (accepted_with flags)) ∙ w.1, w.2)
  where
    marked : (x : Option Description) → socket_in (option_map (accepted_with flags) x) ≡ socket_in (option_map (changed as_accepted) x)
    marked None = refl
    marked (Some D) = refl

    by_place : (b : Bool) → (u : Socket)
        × (socket_in (cond b (option_map (accepted_with flags) (description_at S d)) (description_at S d)) ≡ Some u) × (u.phase ≡ s.phase)
    by_place true = (as_accepted s, marked (description_at S d) ∙ changed_in as_accepted (description_at S d) s here, refl)
    by_place false = (s, here, refl)

taken_phase : (S : State) (p n d e : ℕ) (flags : OpenFlags) (s : Socket) → socket_at S d ≡ Some s →
    (u : Socket) × (socket_at (with_accepted S (record { process = p; number = n; flags = flags; listener = d; oldest = e })) d ≡ Some u)
    × (u.phase ≡ phase_without_first_end s.phase)
taken_phase S p n d e flags s here =
    let V : State = with_table S p (filled (table_of S p) n (descriptor flags e)) in
    let there : socket_at V d ≡ Some s =
    ap (λ (ds : List (Option Description)). socket_in (place ds d))
    (same_descriptions S p (filled (table_of S p) n (descriptor flags e))) ∙ here in
    marked_phase (with_socket_by V d without_first_end) e d flags (without_first_end s) (socket_changed V d without_first_end s there)

-- a place is free once an end was taken
Free : Phase → Type 0
Free phase = (kept : Listener) × (listener_of phase ≡ Some kept) × (length kept.backlog.pending < kept.backlog.limit)

free_by_taking : (phase : Phase) (kept : Listener) (e : ℕ) → listener_of phase ≡ Some kept → slice_get (pending_ends phase) 0 ≡ Some e →
    length kept.backlog.pending ≤ kept.backlog.limit → Free (phase_without_first_end phase)
unfolding Free
free_by_taking idle kept e h first few = absurd (cc h)
free_by_taking (listening backlog cred) kept e h first few =
    let one : record { backlog = backlog; cred = cred } ≡ kept = cc h in
    let still : length backlog.pending ≤ backlog.limit =
    subst (λ (k : Listener). length k.backlog.pending ≤ k.backlog.limit) (sym one) few in
    (record { backlog = record backlog { pending = drop 1 backlog.pending }; cred = cred }, refl, fewer backlog.pending first still)
  where
    fewer : (es : List ℕ) → slice_get es 0 ≡ Some e → length es ≤ backlog.limit → length (drop 1 es) < backlog.limit
    fewer [] h few = absurd (cc h)
    fewer (x ∷ xs) h few = omega (arith, few)
free_by_taking (connected peer) kept e h first few = absurd (cc h)
free_by_taking (associated target) kept e h first few = absurd (cc h)

-- ---- listen

listen_leaves : (S : State) (p d : ℕ) (fd : Fd) (backlog : ℤ) (s : Socket) → find_socket S p fd ≡ Ok (d, s) →
    (listen S p fd backlog).reply ≡ Reply.Ok →
    (cred : Cred) × ((listen S p fd backlog).next ≡ with_socket_by S d (with_listening (backlog_of backlog) cred))
unfolding listen
listen_leaves S p d fd backlog s found = maybe Q (process_at S p) _ _ (λ h. absurd (cc h)) (λ P here. at_found Q S p d fd s _ found
    (either Q (is_dgram s.kind) _ _ (λ a h. absurd (cc h))
    (λ a. either Q (is_some (peer_of s.phase)) _ _ (λ b h. absurd (cc h))
    (λ b. either Q (is_unnamed_addr s.name) _ _ (λ c h. absurd (cc h)) (λ c h. (own_cred p P, refl))))))
  where
    Q : Outcome → Type 0
    Q o = o.reply ≡ Reply.Ok → (cred : Cred) × (o.next ≡ with_socket_by S d (with_listening (backlog_of backlog) cred))

pending_is : (phase : Phase) (kept : Listener) → listener_of phase ≡ Some kept → pending_ends phase ≡ kept.backlog.pending
pending_is idle kept h = absurd (cc h)
pending_is (listening backlog cred) kept h =
    let one : record { backlog = backlog; cred = cred } ≡ kept = cc h in ap (λ (k : Listener). k.backlog.pending) one
pending_is (connected peer) kept h = absurd (cc h)
pending_is (associated target) kept h = absurd (cc h)

-- ---- the law

has_place : (s : Socket) (phase : Phase) → s.phase ≡ phase → Free phase → HasPlace s
unfolding Free
has_place s phase is w = record { kept = w.0; listens = ap listener_of is ∙ w.1; free = w.2 }

-- the phase at the end of a call
left_phase : (U T : State) (d : ℕ) (u t : Socket) → T ≡ settled U → socket_at U d ≡ Some u → socket_at T d ≡ Some t → t.phase ≡ u.phase
left_phase U T d u t is here there = left_part (λ (x : Socket). x.phase) U T d u t (λ x. refl)
    (subst (λ (V : State). Lost U V d) (sym is) (settled_lost U d)) here there

step_accept : (S T : State) (p tag d : ℕ) (fd n : Fd) (flags : OpenFlags) (name : Addr) (s t : Socket) (kept : Listener) (reply : Reply)
    (gone : List ℕ) → Step S p tag (Request.Accept fd flags) reply gone T → reply ≡ Reply.Accepted n name →
    socket_behind S p fd ≡ Some d → socket_at S d ≡ Some s → listener_of s.phase ≡ Some kept →
    length kept.backlog.pending ≤ kept.backlog.limit → socket_at T d ≡ Some t → HasPlace t
unfolding Step outcome
step_accept S T p tag d fd n flags name s t kept reply gone step answered behind here listens few there =
    let w = behind_found S p d fd behind in
    let one : w.0 ≡ s = both_are (socket_found S p d fd w.0 w.1) here in
    let c = answered_own S step.0 (accept S p fd flags) reply (Reply.Accepted n name) step.1 answered (λ e. cc e) (λ e. cc e) in
    let a = accept_takes S p d fd n flags name w.0 w.1 c.0 in
    let first = ap (λ (x : Socket). slice_get (pending_ends x.phase) 0) (sym one) ∙ a.2 in
    let U : State = with_accepted S (record { process = p; number = a.0; flags = flags; listener = d; oldest = a.1 }) in
    let u = taken_phase S p a.0 d a.1 flags s here in
    has_place t (phase_without_first_end s.phase) (left_phase U T d u.0 t (step.3 ∙ ap settled (c.1 ∙ a.3)) u.1 there ∙ u.2)
    (free_by_taking s.phase kept a.1 listens first few)

step_listen : (S T : State) (p tag d : ℕ) (fd : Fd) (backlog : ℤ) (s t : Socket) (kept : Listener) (reply : Reply) (gone : List ℕ) →
    Step S p tag (Request.Listen fd backlog) reply gone T → reply ≡ Reply.Ok → socket_behind S p fd ≡ Some d → socket_at S d ≡ Some s →
    listener_of s.phase ≡ Some kept → length kept.backlog.pending < backlog_of backlog → socket_at T d ≡ Some t → HasPlace t
unfolding Step outcome Free
step_listen S T p tag d fd backlog s t kept reply gone step answered behind here listens few there =
    let w = behind_found S p d fd behind in
    let c = ok_own S step.0 (listen S p fd backlog) reply step.1 answered in
    let l = listen_leaves S p d fd backlog w.0 w.1 c.0 in
    let U : State = with_socket_by S d (with_listening (backlog_of backlog) l.0) in
    let now = socket_changed S d (with_listening (backlog_of backlog) l.0) s here in
    let long = ap (λ (es : List ℕ). length es) (pending_is s.phase kept listens) in
    has_place t (with_listening (backlog_of backlog) l.0 s).phase
    (left_phase U T d (with_listening (backlog_of backlog) l.0 s) t (step.3 ∙ ap settled (c.1 ∙ l.1)) now there)
    (record { backlog = record { limit = backlog_of backlog; pending = pending_ends s.phase }; cred = l.0 }, refl, omega (arith, long, few))

pub places_come : PlacesCome
places_come boot es j d e s t kept legal at here listens brings there = by_way brings
  where
    S : State
    S = before boot es j

    T : State
    T = before boot es (suc j)

    step : (r : Request) → e.request ≡ r → Step S e.pid.0 j r e.reply e.released T
    step r is = subst (λ (r : Request). Step S e.pid.0 j r e.reply e.released T) is (moment boot es j e legal at).steps

    by_way : BringsPlace S e d kept → HasPlace t
    by_way (by_accept fd flags n name is answered behind few) =
        step_accept S T e.pid.0 j d fd n flags name s t kept e.reply e.released (step (Request.Accept fd flags) is) answered behind here
        listens few there
    by_way (by_listen fd backlog is answered behind few) =
        step_listen S T e.pid.0 j d fd backlog s t kept e.reply e.released (step (Request.Listen fd backlog) is) answered behind here
        listens few there
