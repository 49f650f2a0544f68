-- The rounds of release keep that nothing dangles.
use Rattle.std.proofs.Common.{◌≡◌, ◌⊎◌, inl, inr, ⊎_elim, ℕ, zero, suc, ◌+◌, ◌≤◌, ◌==◌, Bool, true, false, not, ◌&&◌, ◌||◌, if◌then◌else◌}
use Rattle.std.proofs.Common.{cond, List, [], ◌∷◌, length, map, sum_by, Option, Some, None, refl, ap, sym, ◌∙◌, arith}
use Rattle.std.specs.Prelude.{is_some, filter, option_map}
use Rattle.std.specs.List.{slice_get, enumerate_from}
use Rattle.std.proofs.lemmas.Bool.{eqb-true, and_parts}
use Rattle.std.proofs.lemmas.List.{length-map}
use Rattle.std.proofs.lemmas.List.FromFn.{length-enumerate_from}
use Rattle.std.proofs.lemmas.List.Sums.{sum_by-cons}
use Rattle.ux_model.specs.Types.{Name}
use Rattle.ux_model.specs.Places.{place}
use Rattle.ux_model.specs.Object.{View}
use Rattle.ux_model.specs.Socket.{Socket, with_reset}
use Rattle.ux_model.specs.Description.{Description, Target, to_object, to_socket}
use Rattle.ux_model.specs.State.{State, description_at}
use Rattle.ux_model.specs.References.{target_refs, description_refs, leads_to, is_open_of, refs, orefs}
use Rattle.ux_model.specs.Peers.{target_peer, peer_in, Paired, at_target, at_socket}
use Rattle.ux_model.specs.Release.{place_after_loss, without, is_unreferenced, has_unreferenced, drop_all, drop_rounds, drop_unreferenced}
use Rattle.ux_model.specs.Release.{without_orphans, settled}
use Rattle.ux_model.proofs.Releasing.Losses.{is_reset_by_loss, target_after_loss, description_after_loss}
use Rattle.ux_model.specs.Invariants.{pends, pends_at_all}
use Rattle.ux_model.proofs.Releasing.ReleaseLaws.{description_at-without}
use Rattle.ux_model.proofs.Lists.ChangedPlaces.{bool_cases}
use Rattle.ux_model.proofs.Releasing.Settling.{object_left}
use Rattle.ux_model.proofs.Changes.Sound.{IsHeld, IsSound, unaccepted, target_name, name_in}
use Rattle.ux_model.proofs.Invariants.KeptSound.{pends_are_refs, none_less, same_orefs_objects, same_refs_objects}

-- ---- what is the same of a description that stays

-- and is nothing of one that goes
record IsStable {X : Type 0} (nothing : X) (f : Option Description → X) : Type 0 where
  of_none : f None ≡ nothing
  of_some : (G : ℕ → Bool) (S : State) (D : Description) → f (Some (description_after_loss G S D)) ≡ f (Some D)

-- a property of targets that no pending error changes
stable : {X : Type 0} (nothing : X) (f : Option Description → X) (g : Target → X) → f None ≡ nothing →
    ((D : Description) → f (Some D) ≡ g D.target) →
    ((s : Socket) (on : Bool) → g (to_socket (with_reset on s)) ≡ g (to_socket s)) → IsStable nothing f
stable nothing f g none by still = record {
  of_none = none;
  of_some = λ G S D. by (description_after_loss G S D) ∙ left G S D.target
      ∙ sym (by D);
}
  where
    left : (G : ℕ → Bool) (S : State) (t : Target) → g (target_after_loss G S t) ≡ g t
    left G S (to_object o) = refl
    left G S (to_socket s) = still s (s.reset || is_reset_by_loss G S s.phase)

stable_refs : (d : ℕ) → IsStable 0 (description_refs d)
stable_refs d = stable 0 (description_refs d) (target_refs d) refl (λ D. refl) (λ s on. refl)

stable_leads : (o : ℕ) → IsStable {X = ℕ} 0 (λ x. cond (is_open_of o x) 1 0)
stable_leads o = stable {X = ℕ} 0 (λ x. cond (is_open_of o x) 1 0) (λ t. cond (leads_to o t) 1 0) refl (λ D. refl) (λ s on. refl)

stable_pends : (d : ℕ) → IsStable 0 (at_socket (pends d))
stable_pends d = stable 0 (at_socket (pends d)) (at_target (pends d)) refl (λ D. refl) (λ s on. refl)

stable_waits : IsStable 0 (at_socket unaccepted)
stable_waits = stable 0 (at_socket unaccepted) (at_target unaccepted) refl (λ D. refl) (λ s on. refl)

stable_peer : IsStable None peer_in
stable_peer = stable None peer_in target_peer refl (λ D. refl) (λ s on. refl)

stable_name : IsStable None name_in
stable_name = stable None name_in target_name refl (λ D. refl) (λ s on. refl)

stable_held : IsStable false is_some
stable_held = record { of_none = refl; of_some = λ G S D. refl }

-- so of each place: as before, or nothing where it goes
left_at : {X : Type 0} (nothing : X) (f : Option Description → X) → IsStable nothing f →
    (G : ℕ → Bool) (S : State) (b : Bool) (x : Option Description) →
    f (if b then None else option_map (description_after_loss G S) x) ≡ (if b then nothing else f x)
left_at nothing f s G S true x = s.of_none
left_at nothing f s G S false None = refl
left_at nothing f s G S false (Some D) = s.of_some G S D

left_of : {X : Type 0} (nothing : X) (f : Option Description → X) → IsStable nothing f → (G : ℕ → Bool) (S : State) (d : ℕ) →
    f (description_at (without G S) d) ≡ (if G d then nothing else f (description_at S d))
left_of nothing f s G S d = ap f (description_at-without G S d) ∙ left_at nothing f s G S (G d) (description_at S d)

-- and no sum is greater
left_sum : (f : Option Description → ℕ) → IsStable 0 f → (G : ℕ → Bool) (S : State) (k : ℕ) (xs : List (Option Description)) →
    sum_by f (map (place_after_loss G S) (enumerate_from k xs)) ≤ sum_by f xs
left_sum f s G S k [] = omega arith
left_sum f s G S k (x ∷ xs) =
    let new = sum_by-cons f (place_after_loss G S (k, x)) (map (place_after_loss G S) (enumerate_from (k + 1) xs)) in
    let old = sum_by-cons f x xs in
    let here : f (place_after_loss G S (k, x)) ≡ (if G k then 0 else f x) = left_at 0 f s G S (G k) x in
    let less = at_most (G k) (f x) in
    let rest = left_sum f s G S (k + 1) xs in
    omega (arith, new, old, here, less, rest)
  where
    at_most : (b : Bool) (n : ℕ) → (if b then 0 else n) ≤ n
    at_most true n = omega arith
    at_most false n = omega arith

-- ---- one round

fewer_refs : (G : ℕ → Bool) (S : State) (d : ℕ) → refs (without G S) d ≤ refs S d
unfolding refs without
fewer_refs G S d = let l = left_sum (description_refs d) (stable_refs d) G S 0 S.descriptions in omega (arith, l)

fewer_orefs : (G : ℕ → Bool) (S : State) (o : ℕ) → orefs (without G S) o ≤ orefs S o
unfolding orefs without
fewer_orefs G S o = let l = left_sum (λ x. cond (is_open_of o x) 1 0) (stable_leads o) G S 0 S.descriptions in omega (arith, l)

fewer_pend : (G : ℕ → Bool) (S : State) (d : ℕ) → pends_at_all d (without G S).descriptions ≤ pends_at_all d S.descriptions
unfolding without
fewer_pend G S d = left_sum (at_socket (pends d)) (stable_pends d) G S 0 S.descriptions

same_objects : (G : ℕ → Bool) (S : State) → (without G S).objects ≡ S.objects
unfolding without
same_objects G S = refl

same_number : (G : ℕ → Bool) (S : State) → length (without G S).descriptions ≡ length S.descriptions
unfolding without
same_number G S = length-map (enumerate_from 0 S.descriptions) (place_after_loss G S) ∙ length-enumerate_from 0 S.descriptions

names_left : (G : ℕ → Bool) (S : State) → (without G S).abstract_names ≡ filter (λ e. not (G e.1)) S.abstract_names
unfolding without
names_left G S = refl

-- all ends that wait are references
pub all_pends_are_refs : (S : State) (d : ℕ) → pends_at_all d S.descriptions ≤ refs S d
unfolding refs
all_pends_are_refs S d = let all = fewer S.descriptions in omega (arith, all)
  where
    at_place : (x : Option Description) → at_socket (pends d) x ≤ description_refs d x
    at_place None = omega arith
    at_place (Some D) = pends_are_refs d D.target

    fewer : (ds : List (Option Description)) → sum_by (at_socket (pends d)) ds ≤ sum_by (description_refs d) ds
    fewer [] = omega arith
    fewer (x ∷ xs) =
        let s = sum_by-cons (at_socket (pends d)) x xs in
        let t = sum_by-cons (description_refs d) x xs in
        let here = at_place x in
        let rest = fewer xs in
        omega (arith, s, t, here, rest)

-- what a filtered list holds stood in the list, and passed
in_filtered : {X : Type 0} (keep : X → Bool) (xs : List X) (i : ℕ) (e : X) → slice_get (filter keep xs) i ≡ Some e →
    (j : ℕ) × (slice_get xs j ≡ Some e) × (keep e ≡ true)
in_filtered keep [] zero e h = absurd (cc h)
in_filtered keep [] (suc i) e h = absurd (cc h)
in_filtered {X} keep (x ∷ xs) i e h = go (keep x) refl i h (in_filtered keep xs)
  where
    go : (b : Bool) → keep x ≡ b → (i : ℕ) → slice_get (if b then x ∷ filter keep xs else filter keep xs) i ≡ Some e →
        ((i : ℕ) (e : X) → slice_get (filter keep xs) i ≡ Some e → (j : ℕ) × (slice_get xs j ≡ Some e) × (keep e ≡ true)) →
        (j : ℕ) × (slice_get (x ∷ xs) j ≡ Some e) × (keep e ≡ true)
    go true k zero h rest = let same : x ≡ e = cc h in (0, ap Some same, ap keep (sym same) ∙ k)
    go true k (suc i) h rest = let r = rest i e h in (suc r.0, r.1, r.2)
    go false k i h rest = let r = rest i e h in (suc r.0, r.1, r.2)

stays : {X : Type 0} (b : Bool) (x y : X) → not b ≡ true → (if b then x else y) ≡ y
stays true x y h = absurd (cc h)
stays false x y h = refl

gone_or_not : (b c : Bool) → (if b then false else c) ≡ false → (b ≡ true) ⊎ (c ≡ false)
gone_or_not true c h = inl refl
gone_or_not false c h = inr h

-- what goes has no references
none_of_gone : (S : State) (d : ℕ) → is_unreferenced S d ≡ true → refs S d ≡ 0
none_of_gone S d u = eqb-true (refs S d) 0 (and_parts (is_some (description_at S d)) (refs S d == 0) u).1

round_held : (S : State) → IsHeld S → IsHeld (drop_all S)
round_held S held = record {
  no_description_dangles = λ d gone. none_less (refs (drop_all S) d) (refs S d) (fewer_refs (is_unreferenced S) S d)
      (⊎_elim {C = refs S d ≡ 0} (λ u. none_of_gone S d u) (λ none. held.no_description_dangles d none)
      (gone_or_not (is_unreferenced S d) (is_some (description_at S d))
      (sym (left_of false is_some stable_held (is_unreferenced S) S d) ∙ gone)));
  no_object_dangles = λ o gone. none_less (orefs (drop_all S) o) (orefs S o) (fewer_orefs (is_unreferenced S) S o)
      (held.no_object_dangles o (sym (ap (λ (os : List (Option View)). is_some (place os o)) (same_objects (is_unreferenced S) S)) ∙ gone));
  all_open = λ o view h. held.all_open o view (sym (ap (λ (os : List (Option View)). place os o) (same_objects (is_unreferenced S) S)) ∙ h);
  ends_wait = λ d.
      let fewer = fewer_pend (is_unreferenced S) S d in
      let all = all_pends_are_refs S d in
      let old = held.ends_wait d in
      let left = left_of 0 (at_socket unaccepted) stable_waits (is_unreferenced S) S d in
      bool_cases (is_unreferenced S d)
      (λ u. let none = none_of_gone S d u in omega (arith, fewer, all, none))
      (λ u. let same : at_socket unaccepted (description_at (drop_all S) d) ≡ at_socket unaccepted (description_at S d) = left
      ∙ ap (λ b. if b then 0 else at_socket unaccepted (description_at S d)) u in omega (arith, fewer, old, same));
  names_owned = λ i e h.
      let was = in_filtered (λ (e : Name × ℕ). not (is_unreferenced S e.1)) S.abstract_names i e
      (sym (ap (λ (ns : List (Name × ℕ)). slice_get ns i) (names_left (is_unreferenced S) S)) ∙ h) in
      left_of None name_in stable_name (is_unreferenced S) S e.1
      ∙ stays (is_unreferenced S e.1) None (name_in (description_at S e.1)) was.2
      ∙ held.names_owned was.0 e was.1;
}

-- whoever has a peer stays with it, or one of them goes
round_paired : (G : ℕ → Bool) (S : State) → Paired S.descriptions → Paired (without G S).descriptions
round_paired G S paired = record {
  returned = λ i p e there.
      let at_i = peer_still (G i) (peer_in (description_at S i)) p (sym (left_of None peer_in stable_peer G S i) ∙ e) in
      let at_p = held_still (G p) (is_some (description_at S p)) (sym (left_of false is_some stable_held G S p) ∙ there) in
      left_of None peer_in stable_peer G S p ∙ ap (λ b. if b then None else peer_in (description_at S p)) at_p.0
      ∙ paired.returned i p at_i at_p.1;
  known = λ i p e.
      let known = paired.known i p (peer_still (G i) (peer_in (description_at S i)) p (sym (left_of None peer_in stable_peer G S i) ∙ e)) in
      let long = same_number G S in
      omega (arith, known, long);
}
  where
    peer_still : (b : Bool) (x : Option ℕ) (p : ℕ) → (if b then None else x) ≡ Some p → x ≡ Some p
    peer_still true x p h = absurd (cc h)
    peer_still false x p h = h

    held_still : (b c : Bool) → (if b then false else c) ≡ true → (b ≡ false) × (c ≡ true)
    held_still true c h = absurd (cc h)
    held_still false c h = (refl, h)

round_sound : (S : State) → IsSound S → IsSound (drop_all S)
round_sound S sound = record { held = round_held S sound.held; paired = round_paired (is_unreferenced S) S sound.paired }

rounds_sound : (n : ℕ) (S : State) → IsSound S → IsSound (drop_rounds n S)
unfolding drop_rounds
rounds_sound zero S sound = sound
rounds_sound (suc n) S sound = go (has_unreferenced S) (rounds_sound n (drop_all S) (round_sound S sound))
  where
    go : (b : Bool) → IsSound (drop_rounds n (drop_all S)) →
        IsSound (elim b as (λ _. State) [ true ↦ drop_rounds n (drop_all S) | false ↦ S ])
    go true h = h
    go false h = sound

-- ---- file objects

orphan_or_not : {X : Type 0} (x : Option X) (b : Bool) → is_some (if is_some x && b then None else x) ≡ false →
    (b ≡ true) ⊎ (is_some x ≡ false)
orphan_or_not None b h = inr refl
orphan_or_not (Some x) true h = inl refl
orphan_or_not (Some x) false h = absurd (cc h)

stays_is : {X : Type 0} (x : Option X) (b : Bool) (y : X) → (if is_some x && b then None else x) ≡ Some y → x ≡ Some y
stays_is None b y h = absurd (cc h)
stays_is (Some x) true y h = absurd (cc h)
stays_is (Some x) false y h = h

orphans_sound : (S : State) → IsSound S → IsSound (without_orphans S)
orphans_sound S sound = record {
  held = record {
    no_description_dangles = λ d gone. same_refs_objects S (without_orphans S).objects d ∙ sound.held.no_description_dangles d gone;
    no_object_dangles = λ o gone. same_orefs_objects S (without_orphans S).objects o
        ∙ ⊎_elim {C = orefs S o ≡ 0} (λ z. eqb-true (orefs S o) 0 z) (λ none. sound.held.no_object_dangles o none)
        (orphan_or_not (place S.objects o) (orefs S o == 0) (sym (ap is_some (object_left S o)) ∙ gone));
    all_open = λ o view h. sound.held.all_open o view (stays_is (place S.objects o) (orefs S o == 0) view (sym (object_left S o) ∙ h));
    ends_wait = sound.held.ends_wait;
    names_owned = sound.held.names_owned;
  };
  paired = sound.paired;
}

pub settled_sound : (S : State) → IsSound S → IsSound (settled S)
unfolding settled drop_unreferenced
settled_sound S sound = orphans_sound (drop_unreferenced S) (rounds_sound (length S.descriptions) S sound)
