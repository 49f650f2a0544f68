-- A socket that is connected to a new end, which waits at another, keeps that nothing dangles: the end is made, waits, and gets its peer.
use Rattle.std.proofs.Common.{◌≡◌, ℕ, ◌+◌, ◌≤◌, ◌<◌, ◌==◌, true, false, cond, List, [], ◌∷◌, ◌++◌, length, Option, Some, None, refl, ap}
use Rattle.std.proofs.Common.{sym, subst, ◌∙◌, arith}
use Rattle.std.specs.Prelude.{is_some, option_map}
use Rattle.std.proofs.lemmas.Bool.{eqb-true}
use Rattle.std.proofs.lemmas.List.Sums.{sum_by_push}
use Rattle.ux_model.specs.Types.{Cred}
use Rattle.ux_model.specs.Places.{place, changed_place}
use Rattle.ux_model.specs.Socket.{Socket, Phase, idle, listening, connected, associated, peer_of, pending_ends, phase_with_pending}
use Rattle.ux_model.specs.Socket.{awaiting}
use Rattle.ux_model.specs.Description.{Description, Target, to_object, to_socket, socket_in, changed, changed_target}
use Rattle.ux_model.specs.State.{State, description_at, socket_at, with_socket_by, with_new}
use Rattle.ux_model.specs.References.{times, socket_refs, target_refs, leads_to}
use Rattle.ux_model.specs.Pairing.{socket_description}
use Rattle.ux_model.specs.Connecting.{server_end, no_open_flags, tied, with_connection}
use Rattle.ux_model.specs.Peers.{target_peer, peer_in, Paired, at_target, at_socket}
use Rattle.ux_model.specs.Invariants.{pends, pends_at_all}
use Rattle.ux_model.proofs.Lists.ChangedPlaces.{bool_cases, place_within, length-changed, changed_push}
use Rattle.ux_model.proofs.Lists.OnePlace.{same_at, more_by}
use Rattle.ux_model.proofs.Counting.Sockets.{peer_in-changed, peer_awaiting}
use Rattle.ux_model.proofs.Counting.Making.{place_last, paired-tied}
use Rattle.ux_model.proofs.Releasing.OneGoes.{paired-changed}
use Rattle.ux_model.proofs.Changes.Sound.{IsHeld, IsSound, unaccepted, target_name}
use Rattle.ux_model.proofs.Changes.Reaching.{KeepsReferences}
use Rattle.ux_model.proofs.Invariants.KeptSound.{made_held, place_held, ends_still}

-- ---- a changed socket

-- it keeps its name, and refers to no more that isn't there
socket_references : (S : State) (f : Socket → Socket) (x : Option Description) →
    ((d : ℕ) (s : Socket) → is_some (description_at S d) ≡ false → socket_refs d (f s) ≤ socket_refs d s) →
    ((s : Socket) → (f s).name ≡ s.name) → KeepsReferences S x (option_map (changed f) x)
socket_references S f None fewer same = record { held = refl; leads = λ o. refl; holds = λ d gone. omega arith; named = λ name h. h }
socket_references S f (Some D) fewer same =
    record { held = refl; leads = λ o. leads o D.target; holds = λ d gone. holds d gone D.target; named = λ name h. named D.target ∙ h }
  where
    leads : (o : ℕ) (t : Target) → leads_to o (changed_target f t) ≡ leads_to o t
    leads o (to_object n) = refl
    leads o (to_socket s) = refl

    holds : (d : ℕ) → is_some (description_at S d) ≡ false → (t : Target) → target_refs d (changed_target f t) ≤ target_refs d t
    holds d gone (to_object n) = omega arith
    holds d gone (to_socket s) = fewer d s gone

    named : (t : Target) → target_name (changed_target f t) ≡ target_name t
    named (to_object n) = refl
    named (to_socket s) = ap Some (same s)

-- a number of a socket that a change keeps, or makes greater by so much at most
at_changed : (g : Socket → ℕ) (f : Socket → Socket) (more : ℕ) → ((s : Socket) → g (f s) ≤ g s + more) → (x : Option Description) →
    at_socket g (option_map (changed f) x) ≤ at_socket g x + more
at_changed g f more by None = omega arith
at_changed g f more by (Some D) = by_target D.target
  where
    by_target : (t : Target) → at_target g (changed_target f t) ≤ at_target g t + more
    by_target (to_object o) = omega arith
    by_target (to_socket s) = by s

same_changed : (g : Socket → ℕ) (f : Socket → Socket) → ((s : Socket) → g (f s) ≡ g s) → (x : Option Description) →
    at_socket g (option_map (changed f) x) ≡ at_socket g x
same_changed g f same None = refl
same_changed g f same (Some D) = by_target D.target
  where
    by_target : (t : Target) → at_target g (changed_target f t) ≡ at_target g t
    by_target (to_object o) = refl
    by_target (to_socket s) = same s

-- ---- an end that comes to wait

-- 1 if it is that one
abbrev once : ℕ → ℕ → ℕ
once e d = cond (e == d) 1 0

phase_awaits : (d e : ℕ) (p : Phase) → times d (pending_ends (phase_with_pending e p)) ≤ times d (pending_ends p) + once e d
phase_awaits d e idle = omega arith
phase_awaits d e (listening backlog cred) = let s = sum_by_push (λ n. cond {A = ℕ} (n == d) 1 0) backlog.pending e in omega (arith, s)
phase_awaits d e (connected peer) = omega arith
phase_awaits d e (associated target) = omega arith

-- what is there isn't what isn't there
apart : (S : State) (e d : ℕ) → is_some (description_at S e) ≡ true → is_some (description_at S d) ≡ false → ◌≡◌ {A = ℕ} (once e d) 0
apart S e d there gone = bool_cases (e == d)
    (λ h. let one : is_some (description_at S d) ≡ true = ap (λ n. is_some (description_at S n)) (sym (eqb-true e d h)) ∙ there in
    absurd (cc (one, gone)))
    (λ h. ap (λ b. cond {A = ℕ} b 1 0) h)

some_counted : (x : Option Description) → at_socket unaccepted x ≡ 1 → is_some x ≡ true
some_counted None h = absurd (omega (arith, h))
some_counted (Some D) h = refl

-- one that is there, which no accept has taken, and which waits nowhere yet
awaiting_held : (S : State) (l e : ℕ) → IsHeld S → at_socket unaccepted (description_at S e) ≡ 1 → pends_at_all e S.descriptions ≡ 0 →
    IsHeld (with_socket_by S l (awaiting e))
awaiting_held S l e held waits none = place_held S l (option_map (changed (awaiting e)) (description_at S l)) held
    (socket_references S (awaiting e) (description_at S l)
    (λ d s gone. let a = phase_awaits d e s.phase in let z = apart S e d (some_counted (description_at S e) waits) gone in
    omega (arith, a, z)) (λ s. refl))
    (λ d.
    let more = more_by (at_socket (pends d)) S.descriptions l (once e d) (option_map (changed (awaiting e)) (description_at S l))
    (at_changed (pends d) (awaiting e) (once e d) (λ s. phase_awaits d e s.phase) (description_at S l)) in
    let same : at_socket unaccepted (place (changed_place S.descriptions l (changed (awaiting e))) d) ≡ at_socket unaccepted
    (description_at S d) =
    same_at (at_socket unaccepted) S.descriptions l d (option_map (changed (awaiting e)) (description_at S l))
    (same_changed unaccepted (awaiting e) (λ s. refl) (description_at S l)) in
    bool_cases (e == d)
    (λ h.
    let is : e ≡ d = eqb-true e d h in
    let one : once e d ≡ 1 = ap (λ b. cond {A = ℕ} b 1 0) h in
    let none_else : pends_at_all d S.descriptions ≡ 0 = ap (λ n. pends_at_all n S.descriptions) (sym is) ∙ none in
    let here : at_socket unaccepted (description_at S d) ≡ 1 = ap (λ n. at_socket unaccepted (description_at S n)) (sym is) ∙ waits in
    omega (arith, more, same, one, none_else, here))
    (λ h.
    let zero_more : ◌≡◌ {A = ℕ} (once e d) 0 = ap (λ b. cond {A = ℕ} b 1 0) h in
    let old = held.ends_wait d in
    omega (arith, more, same, zero_more, old)))

-- ---- a socket that gets a peer

tied_held : (S : State) (d peer : ℕ) (cred : Cred) → IsHeld S → IsHeld (with_socket_by S d (tied peer cred))
tied_held S d peer cred held = place_held S d (option_map (changed (tied peer cred)) (description_at S d)) held
    (socket_references S (tied peer cred) (description_at S d) (λ k s gone. omega arith) (λ s. refl))
    (ends_still S d (option_map (changed (tied peer cred)) (description_at S d)) held
    (λ k. let less = at_changed (pends k) (tied peer cred) 0 (λ s. omega arith) (description_at S d) in omega (arith, less))
    (λ h. let same = same_changed unaccepted (tied peer cred) (λ s. refl) (description_at S d) in omega (arith, same)))

-- ---- the connection

-- what stands past the end
none_past : (ds : List (Option Description)) → place ds (length ds) ≡ None
none_past [] = refl
none_past (x ∷ xs) = none_past xs

within_of : (x : Option Description) (s : Socket) → socket_in x ≡ Some s → (D : Description) × (x ≡ Some D)
within_of None s h = absurd (cc h)
within_of (Some D) s h = (D, refl)

-- the place of a socket without a peer, and the peer that it gets
record Ties (x : Option Description) (peer : ℕ) (cred : Cred) : Type 0 where
  there : Description
  is : x ≡ Some there
  free : target_peer there.target ≡ None
  ties : target_peer (changed_target (tied peer cred) there.target) ≡ Some peer

ties_of : (peer : ℕ) (cred : Cred) (x : Option Description) → is_some (socket_in x) ≡ true → peer_in x ≡ None → Ties x peer cred
ties_of peer cred None h free = absurd (cc h)
ties_of peer cred (Some D) h free = record { there = D; is = refl; free = free; ties = by_target D.target h }
  where
    by_target : (t : Target) → is_some (socket_in (Some (record D { target = t }))) ≡ true →
        target_peer (changed_target (tied peer cred) t) ≡ Some peer
    by_target (to_object o) h = absurd (cc h)
    by_target (to_socket s) h = refl

socket_still : (f : Socket → Socket) (x : Option Description) → is_some (socket_in (option_map (changed f) x)) ≡ is_some (socket_in x)
socket_still f None = refl
socket_still f (Some D) = by_target D.target
  where
    by_target : (t : Target) → is_some (socket_in (Some (record D { target = changed_target f t }))) ≡ is_some
        (socket_in (Some (record D { target = t })))
    by_target (to_object o) = refl
    by_target (to_socket s) = refl

no_peer_in : (x : Option Description) (s : Socket) → socket_in x ≡ Some s → peer_of s.phase ≡ None → peer_in x ≡ None
no_peer_in None s h free = absurd (cc h)
no_peer_in (Some D) s h free = by_target D.target h
  where
    by_target : (t : Target) → socket_in (Some (record D { target = t })) ≡ Some s → target_peer t ≡ None
    by_target (to_object o) h = absurd (cc h)
    by_target (to_socket u) h = let same : u ≡ s = cc h in ap (λ (v : Socket). peer_of v.phase) same ∙ free

pub connection_sound : (S : State) (d l : ℕ) (cred listener_cred : Cred) (s listener : Socket) → IsSound S → socket_at S d ≡ Some s →
    peer_of s.phase ≡ None → socket_at S l ≡ Some listener →
    IsSound (with_connection S (record { client = d; client_cred = cred; listener = l; socket = listener; listener_cred = listener_cred }))
connection_sound S d l cred listener_cred s listener sound client free there = record { held = held; paired = paired }
  where
    e : ℕ
    e = length S.descriptions

    E : Description
    E = socket_description no_open_flags (server_end listener d cred)

    awaited : List (Option Description)
    awaited = changed_place S.descriptions l (changed (awaiting e))

    inside : l < length S.descriptions
    inside = let w = within_of (description_at S l) listener there in place_within S.descriptions l w.0 w.1

    made : IsHeld (with_new S E)
    made = made_held S E sound.held (λ o h. absurd (cc h)) (λ k. refl)

    waits_nowhere : pends_at_all e (S.descriptions ++ Some E ∷ []) ≡ 0
    waits_nowhere =
        let all = sum_by_push (at_socket (pends e)) S.descriptions (Some E) in
        let old = sound.held.ends_wait e in
        let none : ◌≡◌ {A = ℕ} (at_socket unaccepted (description_at S e)) 0 = ap (at_socket unaccepted) (none_past S.descriptions) in
        omega (arith, all, old, none)

    waiting : IsHeld (with_socket_by (with_new S E) l (awaiting e))
    waiting = awaiting_held (with_new S E) l e made (ap (at_socket unaccepted) (place_last S.descriptions (Some E))) waits_nowhere

    held : IsHeld (with_connection S (record {
      client = d;
      client_cred = cred;
      listener = l;
      socket = listener;
      listener_cred =
          listener_cred;
    }))
    held = subst (λ (ds : List (Option Description)). IsHeld
        (record S { descriptions = changed_place ds d (changed (tied e listener_cred)) }))
        (changed_push S.descriptions l (changed (awaiting e)) (Some E) inside)
        (tied_held (with_socket_by (with_new S E) l (awaiting e)) d e listener_cred waiting)

    ties : Ties (place awaited d) e listener_cred
    ties = ties_of e listener_cred (place awaited d)
        (same_at (λ x. is_some (socket_in x)) S.descriptions l d (option_map (changed (awaiting e)) (description_at S l))
        (socket_still (awaiting e) (description_at S l)) ∙ ap is_some client)
        (same_at peer_in S.descriptions l d (option_map (changed (awaiting e)) (description_at S l))
        (peer_in-changed (awaiting e) (λ u. peer_awaiting e u.phase) (description_at S l))
        ∙ no_peer_in (description_at S d) s client free)

    paired : Paired (changed_place (awaited ++ Some E ∷ []) d (changed (tied e listener_cred)))
    paired = paired-tied awaited E ties.there (changed (tied e listener_cred) ties.there) d (changed (tied e listener_cred))
        (paired-changed S.descriptions l (changed (awaiting e)) (peer_in-changed (awaiting e) (λ u. peer_awaiting e u.phase)) sound.paired)
        ties.is ties.free refl refl (ties.ties ∙ ap Some (sym (length-changed S.descriptions l (changed (awaiting e)))))
