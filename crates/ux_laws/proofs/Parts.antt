-- What a call may leave as it was of a description: what a socket is, has waiting and is tied to, and which file object it leads to. Names,
-- options,
-- offsets, flags and what is pending are no part of it.
use Rattle.std.proofs.Common.{◌≡◌, ◌≢◌, ◌⊎◌, ℕ, zero, suc, ◌+◌, ◌==◌, Bool, true, false, cond, if◌then◌else◌, List, [], ◌∷◌, ◌++◌, length}
use Rattle.std.proofs.Common.{Option, Some, None, option_map, refl, ap, sym, ◌∙◌, inl, inr, ⊎_elim}
use Rattle.std.specs.List.{enumerate_from}
use Rattle.std.proofs.lemmas.Bool.{eqb-true, eqb-false}
use Rattle.std.proofs.lemmas.List.{length-map, length-set}
use Rattle.ux_model.specs.Types.{Cred, SockType, Mode}
use Rattle.ux_model.specs.Places.{place}
use Rattle.ux_model.specs.Message.{Message}
use Rattle.ux_model.specs.Socket.{Socket, Phase, idle, listening, connected, associated, peer_of, association_of, phase_with_pending}
use Rattle.ux_model.specs.Socket.{awaiting}
use Rattle.ux_model.specs.Description.{Description, Target, to_object, to_socket, socket_of, socket_in, changed, changed_target}
use Rattle.ux_model.specs.Process.{Descriptor}
use Rattle.ux_model.specs.State.{State, description_at, socket_at, with_description, with_description_by, with_socket_by, with_table}
use Rattle.ux_model.specs.State.{with_new}
use Rattle.ux_model.specs.Accepting.{phase_without_first_end, without_first_end}
use Rattle.ux_model.specs.Release.{place_after_loss, without, is_unreferenced, drop_all, drop_rounds, drop_unreferenced, has_unreferenced}
use Rattle.ux_model.specs.Release.{settled}
use Rattle.ux_model.proofs.Releasing.Losses.{target_after_loss, description_after_loss}
use Rattle.ux_model.proofs.Releasing.ReleaseLaws.{description_at-without}
use Rattle.ux_model.proofs.Lists.ChangedPlaces.{bool_cases, place-changed, length-changed}
use Rattle.ux_model.proofs.Lists.OnePlace.{same_at}
use Rattle.ux_model.proofs.Steps.NameCalls.{same_descriptions}
use Rattle.ux_laws.specs.Credentials.{listening_cred}

pub record PhaseParts : Type 0 where
  pub peer : Option ℕ
  pub association : Option ℕ
  pub listener : Option Cred

abbrev pub phase_parts : Phase → PhaseParts
phase_parts phase = record { peer = peer_of phase; association = association_of phase; listener = listening_cred phase }

pub record SocketParts : Type 0 where
  pub kind : SockType
  pub waiting : List Message
  pub tie : PhaseParts
  pub peer_cred : Option Cred

abbrev pub socket_parts : Socket → SocketParts
socket_parts s = record { kind = s.kind; waiting = s.queue; tie = phase_parts s.phase; peer_cred = s.peer_cred }

-- the parts of a socket, or the file object and the mode
abbrev pub Glance : Type 0
Glance = Option SocketParts × Option (ℕ × Mode)

abbrev pub glance_target : Mode → Target → Glance
glance_target mode (to_object o) = (None, Some (o, mode))
glance_target mode (to_socket s) = (Some (socket_parts s), None)

abbrev pub glance : Option Description → Glance
glance None = (None, None)
glance (Some D) = glance_target D.mode D.target

abbrev pub glance_at : State → ℕ → Glance
glance_at S d = glance (description_at S d)

pub glance_socket : (S : State) (d : ℕ) (s : Socket) → socket_at S d ≡ Some s → glance_at S d ≡ (Some (socket_parts s), None)
glance_socket S d s h = at_place (description_at S d) h
  where
    at_target : (mode : Mode) (t : Target) → socket_of t ≡ Some s → glance_target mode t ≡ (Some (socket_parts s), None)
    at_target mode (to_object o) h = absurd (cc h)
    at_target mode (to_socket u) h = let same : u ≡ s = cc h in
        ap (λ (w : Socket). let g : Glance = (Some (socket_parts w), None) in g) same

    at_place : (x : Option Description) → socket_in x ≡ Some s → glance x ≡ (Some (socket_parts s), None)
    at_place None h = absurd (cc h)
    at_place (Some D) h = at_target D.mode D.target h

pub socket_seen : (S : State) (d : ℕ) (q : SocketParts) → (glance_at S d).0 ≡ Some q →
    (s : Socket) × (socket_at S d ≡ Some s) × (socket_parts s ≡ q)
socket_seen S d q h = at_place (description_at S d) h
  where
    at_target : (mode : Mode) (t : Target) → (glance_target mode t).0 ≡ Some q →
        (s : Socket) × (socket_of t ≡ Some s) × (socket_parts s ≡ q)
    at_target mode (to_object o) h = absurd (cc h)
    at_target mode (to_socket u) h = (u, refl, cc h)

    at_place : (x : Option Description) → (glance x).0 ≡ Some q → (s : Socket) × (socket_in x ≡ Some s) × (socket_parts s ≡ q)
    at_place None h = absurd (cc h)
    at_place (Some D) h = at_target D.mode D.target h

-- ---- what stays

pub record Kept (S U : State) : Type 0 where
  pub each : (d : ℕ) → glance_at U d ≡ glance_at S d
  pub long : length U.descriptions ≡ length S.descriptions

pub kept_same : (S U : State) → U.descriptions ≡ S.descriptions → Kept S U
kept_same S U same = record {
  each = λ d. ap (λ (ds : List (Option Description)). glance (place ds d)) same;
  long =
      ap (λ (ds : List (Option Description)). length ds) same;
}

pub kept_after : (S T U : State) → Kept S T → Kept T U → Kept S U
kept_after S T U k l = record { each = λ d. l.each d ∙ k.each d; long = l.long ∙ k.long }

pub kept_table : (S : State) (p : ℕ) (table : List (Option Descriptor)) → Kept S (with_table S p table)
kept_table S p table = kept_same S (with_table S p table) (same_descriptions S p table)

pub kept_put : (S : State) (d : ℕ) (D E : Description) → description_at S d ≡ Some D → glance (Some E) ≡ glance (Some D) →
    Kept S (with_description S d E)
kept_put S d D E here same = record {
  each = λ i. same_at glance S.descriptions d i (Some E) (same ∙ sym (ap glance here));
  long = length-set S.descriptions d (Some E);
}

pub kept_by : (S : State) (d : ℕ) (change : Description → Description) → ((D : Description) → glance (Some (change D)) ≡ glance (Some D)) →
    Kept S (with_description_by S d change)
kept_by S d change same = record {
  each = λ i. same_at glance S.descriptions d i (option_map change (description_at S d)) (at_place (description_at S d));
  long = length-changed S.descriptions d change;
}
  where
    at_place : (x : Option Description) → glance (option_map change x) ≡ glance x
    at_place None = refl
    at_place (Some D) = same D

pub same_target : (change : Socket → Socket) → ((s : Socket) → socket_parts (change s) ≡ socket_parts s) → (mode : Mode) (t : Target) →
    glance_target mode (changed_target change t) ≡ glance_target mode t
same_target change same mode (to_object o) = refl
same_target change same mode (to_socket s) = ap (λ (q : SocketParts). let g : Glance = (Some q, None) in g) (same s)

pub kept_socket : (S : State) (d : ℕ) (change : Socket → Socket) → ((s : Socket) → socket_parts (change s) ≡ socket_parts s) →
    Kept S (with_socket_by S d change)
kept_socket S d change same = kept_by S d (changed change) (λ D. same_target change same D.mode D.target)

awaiting_phase : (e : ℕ) (phase : Phase) → phase_parts (phase_with_pending e phase) ≡ phase_parts phase
awaiting_phase e idle = refl
awaiting_phase e (listening backlog cred) = refl
awaiting_phase e (connected peer) = refl
awaiting_phase e (associated target) = refl

pub awaiting_parts : (e : ℕ) (s : Socket) → socket_parts (awaiting e s) ≡ socket_parts s
awaiting_parts e s = ap (λ (t : PhaseParts). let q : SocketParts =
    record { kind = s.kind; waiting = s.queue; tie = t; peer_cred = s.peer_cred } in q) (awaiting_phase e s.phase)

left_phase : (phase : Phase) → phase_parts (phase_without_first_end phase) ≡ phase_parts phase
left_phase idle = refl
left_phase (listening backlog cred) = refl
left_phase (connected peer) = refl
left_phase (associated target) = refl

pub left_parts : (s : Socket) → socket_parts (without_first_end s) ≡ socket_parts s
left_parts s =
    ap (λ (t : PhaseParts). let q : SocketParts = record { kind = s.kind; waiting = s.queue; tie = t; peer_cred = s.peer_cred } in q)
    (left_phase s.phase)

-- ---- what goes at most

pub record Shrinks (S U : State) : Type 0 where
  pub each : (d : ℕ) → (glance_at U d ≡ glance_at S d) ⊎ (glance_at U d ≡ (None, None))
  pub long : length U.descriptions ≡ length S.descriptions

pub kept_shrinks : {S U : State} → Kept S U → Shrinks S U
kept_shrinks {S} {U} k = record { each = λ d. inl (k.each d); long = k.long }

pub shrunk_after : (S T U : State) → Shrinks S T → Shrinks T U → Shrinks S U
shrunk_after S T U k l = record {
  each = λ d. ⊎_elim {C = (glance_at U d ≡ glance_at S d) ⊎ (glance_at U d ≡ (None, None))}
      (λ same. ⊎_elim {C = (glance_at U d ≡ glance_at S d) ⊎ (glance_at U d ≡ (None, None))} (λ before. inl (same ∙ before))
      (λ none. inr (same ∙ none)) (k.each d))
      (λ none. inr none) (l.each d);
  long = l.long ∙ k.long;
}

lost_target : (gone : ℕ → Bool) (S : State) (mode : Mode) (t : Target) →
    glance_target mode (target_after_loss gone S t) ≡ glance_target mode t
lost_target gone S mode (to_object o) = refl
lost_target gone S mode (to_socket s) = refl

numbers_long : {X : Type 0} (i : ℕ) (xs : List X) → length (enumerate_from i xs) ≡ length xs
numbers_long i [] = refl
numbers_long i (x ∷ xs) = ap suc (numbers_long (i + 1) xs)

lost_shrinks : (gone : ℕ → Bool) (S : State) → Shrinks S (without gone S)
unfolding without
lost_shrinks gone S = record {
  each = λ d. go d (gone d) (description_at S d) (ap glance (description_at-without gone S d));
  long = length-map (enumerate_from 0 S.descriptions) (place_after_loss gone S) ∙ numbers_long 0 S.descriptions;
}
  where
    go : (d : ℕ) (b : Bool) (x : Option Description) →
        glance_at (without gone S) d ≡ glance (if b then None else option_map (description_after_loss gone S) x) →
        (glance_at (without gone S) d ≡ glance x) ⊎ (glance_at (without gone S) d ≡ (None, None))
    go d true x h = inr h
    go d false None h = inl h
    go d false (Some D) h = inl (h ∙ lost_target gone S D.mode D.target)

rounds_shrink : (n : ℕ) (S : State) → Shrinks S (drop_rounds n S)
unfolding drop_rounds
rounds_shrink zero S = kept_shrinks (kept_same S S refl)
rounds_shrink (suc n) S = go (rounds_shrink n (drop_all S)) (has_unreferenced S)
  where
    go : Shrinks (drop_all S) (drop_rounds n (drop_all S)) → (b : Bool) →
        Shrinks S (elim b as (λ _. State) [ true ↦ drop_rounds n (drop_all S) | false ↦ S ])
    go rest true = shrunk_after S (drop_all S) (drop_rounds n (drop_all S)) (lost_shrinks (is_unreferenced S) S) rest
    go rest false = kept_shrinks (kept_same S S refl)

pub settled_shrinks : (S : State) → Shrinks S (settled S)
unfolding settled drop_unreferenced
settled_shrinks S = shrunk_after S (drop_unreferenced S) (settled S) (rounds_shrink (length S.descriptions) S)
    (kept_shrinks (kept_same (drop_unreferenced S) (settled S) refl))

-- ---- one that changes, and one that is new

pub glance_changed : (S : State) (t d : ℕ) (change : Socket → Socket) (s : Socket) → socket_at S t ≡ Some s →
    glance_at (with_socket_by S t change) d ≡ cond (t == d) (Some (socket_parts (change s)), None) (glance_at S d)
glance_changed S t d change s there =
    ap glance (place-changed S.descriptions t d (changed change)) ∙ go (t == d) refl
  where
    here : (mode : Mode) (u : Target) → socket_of u ≡ Some s →
        glance_target mode (changed_target change u) ≡ (Some (socket_parts (change s)), None)
    here mode (to_object o) h = absurd (cc h)
    here mode (to_socket u) h = let same : u ≡ s = cc h in
        ap (λ (w : Socket). let g : Glance = (Some (socket_parts (change w)), None) in g) same

    at_place : (x : Option Description) → socket_in x ≡ Some s →
        glance (option_map (changed change) x) ≡ (Some (socket_parts (change s)), None)
    at_place None h = absurd (cc h)
    at_place (Some D) h = here D.mode D.target h

    go : (b : Bool) → (t == d) ≡ b → glance (cond b (option_map (changed change) (description_at S d)) (description_at S d)) ≡ cond b
        (Some (socket_parts (change s)), None) (glance_at S d)
    go true h = at_place (description_at S d) (sym (ap (λ (k : ℕ). socket_at S k) (eqb-true t d h)) ∙ there)
    go false h = refl

pub pushed_here : {X : Type 0} (ds : List (Option X)) (x : Option X) → place (ds ++ x ∷ []) (length ds) ≡ x
pushed_here [] x = refl
pushed_here (y ∷ ds) x = pushed_here ds x

pushed_other : {X : Type 0} (ds : List (Option X)) (x : Option X) (d : ℕ) → length ds ≢ d → place (ds ++ x ∷ []) d ≡ place ds d
pushed_other [] x zero h = absurd (h refl)
pushed_other [] x (suc d) h = refl
pushed_other (y ∷ ds) x zero h = refl
pushed_other (y ∷ ds) x (suc d) h = pushed_other ds x d (λ e. h (ap suc e))

pub glance_new : (S : State) (D : Description) (d : ℕ) →
    glance_at (with_new S D) d ≡ cond (length S.descriptions == d) (glance (Some D)) (glance_at S d)
glance_new S D d = bool_cases (length S.descriptions == d)
    (λ e.
    let at : length S.descriptions ≡ d = eqb-true (length S.descriptions) d e in
    ap (λ (k : ℕ). glance_at (with_new S D) k) (sym at) ∙ ap glance (pushed_here S.descriptions (Some D))
    ∙ sym (ap (λ b. cond b (glance (Some D)) (glance_at S d)) e))
    (λ e. ap glance (pushed_other S.descriptions (Some D) d (eqb-false (length S.descriptions) d e))
    ∙ sym (ap (λ b. cond b (glance (Some D)) (glance_at S d)) e))

-- ---- a socket, by what is seen of it

abbrev pub Seen : State → ℕ → SocketParts → Type 0
Seen S d q = (glance_at S d).0 ≡ Some q

-- where one changed: that one, or another as it was
pub seen_changed : (S : State) (t d : ℕ) (change : Socket → Socket) (q : SocketParts) → Seen (with_socket_by S t change) d q →
    ((t ≡ d) × (s : Socket) × (socket_at S d ≡ Some s) × (q ≡ socket_parts (change s))) ⊎ Seen S d q
seen_changed S t d change q h = bool_cases (t == d)
    (λ e.
    let here : (glance (option_map (changed change) (description_at S d))).0 ≡ Some q =
    sym (ap (λ b. (glance (cond b (option_map (changed change) (description_at S d)) (description_at S d))).0) e) ∙ all in
    let w = at_place (description_at S d) here in
    inl (eqb-true t d e, w.0, w.1, w.2))
    (λ e. inr (sym (ap (λ b. (glance (cond b (option_map (changed change) (description_at S d)) (description_at S d))).0) e) ∙ all))
  where
    all : (glance (cond (t == d) (option_map (changed change) (description_at S d)) (description_at S d))).0 ≡ Some q
    all = sym (ap (λ x. (glance x).0) (place-changed S.descriptions t d (changed change))) ∙ h

    at_target : (mode : Mode) (u : Target) → (glance_target mode (changed_target change u)).0 ≡ Some q →
        (s : Socket) × (socket_of u ≡ Some s) × (q ≡ socket_parts (change s))
    at_target mode (to_object o) h = absurd (cc h)
    at_target mode (to_socket s) h = let same : socket_parts (change s) ≡ q = cc h in (s, refl, sym same)

    at_place : (x : Option Description) → (glance (option_map (changed change) x)).0 ≡ Some q →
        (s : Socket) × (socket_in x ≡ Some s) × (q ≡ socket_parts (change s))
    at_place None h = absurd (cc h)
    at_place (Some D) h = at_target D.mode D.target h

pub seen_new : (S : State) (D : Description) (d : ℕ) (q : SocketParts) → Seen (with_new S D) d q →
    ((d ≡ length S.descriptions) × ((glance (Some D)).0 ≡ Some q)) ⊎ Seen S d q
seen_new S D d q h = bool_cases (length S.descriptions == d)
    (λ e. inl (
      sym (eqb-true (length S.descriptions) d e),
      sym (ap (λ (g : Glance). g.0) (glance_new S D d ∙ ap (λ b. cond b (glance (Some D)) (glance_at S d)) e)) ∙ h,
    ))
    (λ e. inr (sym (ap (λ (g : Glance). g.0) (glance_new S D d ∙ ap (λ b. cond b (glance (Some D)) (glance_at S d)) e)) ∙ h))

pub seen_shrunk : (V T : State) (d : ℕ) (q : SocketParts) → Shrinks V T → Seen T d q → Seen V d q
seen_shrunk V T d q sh h = ⊎_elim {C = Seen V d q} (λ same. sym (ap (λ (g : Glance). g.0) same) ∙ h)
    (λ none. let nowhere : None ≡ Some q = sym (ap (λ (g : Glance). g.0) none) ∙ h in absurd (cc nowhere)) (sh.each d)

pub seen_socket : (S : State) (d : ℕ) (s : Socket) → socket_at S d ≡ Some s → Seen S d (socket_parts s)
seen_socket S d s h = ap (λ (g : Glance). g.0) (glance_socket S d s h)
