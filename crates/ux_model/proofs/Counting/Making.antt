-- Peers where descriptions are made.
use Rattle.std.proofs.Common.{◌≡◌, ℕ, zero, suc, ◌+◌, ◌<◌, ◌==◌, true, false, cond, List, [], ◌∷◌, ◌++◌, length, Option, Some, None}
use Rattle.std.proofs.Common.{is_some, option_map, refl, ap, sym, ◌∙◌, arith}
use Rattle.std.proofs.lemmas.Bool.{eqb-true, eqb-false, eq-eqb, ne_eqb}
use Rattle.std.proofs.lemmas.List.{get_or_push, length_push, length-set}
use Rattle.ux_model.specs.Places.{place, changed_place}
use Rattle.ux_model.specs.Description.{Description}
use Rattle.ux_model.specs.Peers.{target_peer, peer_in, Paired}
use Rattle.ux_model.proofs.Lists.ChangedPlaces.{bool_cases, place_within, place-changed}

place_other : (ds : List (Option Description)) (x : Option Description) (i : ℕ) → (i == length ds) ≡ false →
    place (ds ++ x ∷ []) i ≡ place ds i
place_other [] x zero e = absurd (cc (e, eq-eqb 0 0 refl))
place_other [] x (suc i) e = refl
place_other (y ∷ ys) x zero e = refl
place_other (y ∷ ys) x (suc i) e = place_other ys x i
    (bool_cases (i == length ys) (λ h. let s : suc i ≡ length (y ∷ ys) = ap suc (eqb-true i (length ys) h) in
    absurd (eqb-false (suc i) (length (y ∷ ys)) e s)) (λ h. h))

-- what stands at i behind one more
pub place-push : (ds : List (Option Description)) (x : Option Description) (i : ℕ) →
    place (ds ++ x ∷ []) i ≡ cond (i == length ds) x (place ds i)
place-push ds x i = bool_cases (i == length ds)
    (λ h. ap (place (ds ++ x ∷ [])) (eqb-true i (length ds) h) ∙ get_or_push ds x None (length ds) refl
    ∙ sym (ap (λ b. cond b x (place ds i)) h))
    (λ h. place_other ds x i h ∙ sym (ap (λ b. cond b x (place ds i)) h))

pub place_last : (ds : List (Option Description)) (x : Option Description) → place (ds ++ x ∷ []) (length ds) ≡ x
place_last ds x = get_or_push ds x None (length ds) refl

within : (ds : List (Option Description)) (i p : ℕ) → peer_in (place ds i) ≡ Some p → i < length ds
within [] i p e = absurd (cc e)
within (x ∷ xs) zero p e = omega arith
within (x ∷ xs) (suc i) p e = let h = within xs i p e in omega (arith, h)

-- one that names nobody, or a number that was made
pub paired-push : (ds : List (Option Description)) (D : Description) → target_peer D.target ≡ None → Paired ds → Paired (ds ++ Some D ∷ [])
paired-push ds D none paired = record {
  returned = λ i p e there.
      let was : peer_in (place ds i) ≡ Some p = before i p e in
      let p_old : p < length ds = paired.known i p was in
      let other : (p == length ds) ≡ false = ne_eqb p (length ds) (λ h. omega (arith, h, p_old)) in
      let at : place (ds ++ Some D ∷ []) p ≡ place ds p = place_other ds (Some D) p other in
      ap peer_in at ∙ paired.returned i p was (sym (ap is_some at) ∙ there);
  known = λ i p e. let a = paired.known i p (before i p e) in let b = length_push ds (Some D) in omega (arith, a, b);
}
  where
    before : (i p : ℕ) → peer_in (place (ds ++ Some D ∷ []) i) ≡ Some p → peer_in (place ds i) ≡ Some p
    before i p e = bool_cases (i == length ds)
        (λ h. absurd (cc (
          sym (ap peer_in (place_last ds (Some D)) ∙ none),
          sym (ap (λ n. peer_in (place (ds ++ Some D ∷ []) n)) (eqb-true i (length ds) h)) ∙ e,
        )))
        (λ h. sym (ap peer_in (place_other ds (Some D) i h)) ∙ e)

-- two new ones that name one another
pub paired-pair : (ds : List (Option Description)) (D E : Description) → target_peer D.target ≡ Some (length ds + 1) →
    target_peer E.target ≡ Some (length ds) →
    Paired ds → Paired ((ds ++ Some D ∷ []) ++ Some E ∷ [])
paired-pair ds D E first second paired = record {
  returned = λ i p e there. bool_cases (i == length ds)
      (λ h.
      let q : Some (length ds + 1) ≡ Some p = sym (ap peer_in (at_first i h) ∙ first) ∙ e in
      let r : p ≡ length ds + 1 = cc q in
      ap peer_in (at_second p r) ∙ second ∙ ap Some (sym (eqb-true i (length ds) h)))
      (λ h. bool_cases (i == length ds + 1)
      (λ g.
      let q : Some (length ds) ≡ Some p = sym (ap peer_in (at_second i (eqb-true i (length ds + 1) g)) ∙ second) ∙ e in
      let r : p ≡ length ds = cc q in
      let t : (p == length ds) ≡ true = eq-eqb p (length ds) r in
      ap peer_in (at_first p t) ∙ first ∙ ap Some (sym (eqb-true i (length ds + 1) g)))
      (λ g.
      let was : peer_in (place ds i) ≡ Some p = sym (ap peer_in (at_old i h g)) ∙ e in
      let p_old : p < length ds = paired.known i p was in
      let at : place ((ds ++ Some D ∷ []) ++ Some E ∷ []) p ≡ place ds p =
      at_old p (ne_eqb p (length ds) (λ t. omega (arith, t, p_old))) (ne_eqb p (length ds + 1) (λ t. omega (arith, t, p_old))) in
      ap peer_in at ∙ paired.returned i p was (sym (ap is_some at) ∙ there)));
  known = λ i p e.
      let a = length_push ds (Some D) in
      let b = length_push (ds ++ Some D ∷ []) (Some E) in
      let short : p < length ds + 2 = bool_cases (i == length ds)
      (λ h. let q : Some (length ds + 1) ≡ Some p = sym (ap peer_in (at_first i h) ∙ first) ∙ e in let r : p ≡ length ds + 1 = cc q in
      omega (arith, r))
      (λ h. bool_cases (i == length ds + 1)
      (λ g. let q : Some (length ds) ≡ Some p = sym (ap peer_in (at_second i (eqb-true i (length ds + 1) g)) ∙ second) ∙ e in
      let r : p ≡ length ds = cc q in omega (arith, r))
      (λ g. let s = paired.known i p (sym (ap peer_in (at_old i h g)) ∙ e) in omega (arith, s))) in
      omega (arith, a, b, short);
}
  where
    long : length (ds ++ Some D ∷ []) ≡ length ds + 1
    long = length_push ds (Some D)

    at_second : (i : ℕ) → i ≡ length ds + 1 → place ((ds ++ Some D ∷ []) ++ Some E ∷ []) i ≡ Some E
    at_second i h = ap (place ((ds ++ Some D ∷ []) ++ Some E ∷ [])) (h ∙ sym long) ∙ place_last (ds ++ Some D ∷ []) (Some E)

    not_second : (i : ℕ) → (i == length ds + 1) ≡ false → (i == length (ds ++ Some D ∷ [])) ≡ false
    not_second i g = ap (λ n. i == n) long ∙ g

    at_old : (i : ℕ) → (i == length ds) ≡ false → (i == length ds + 1) ≡ false → place ((ds ++ Some D ∷ []) ++ Some E ∷ []) i ≡ place ds i
    at_old i h g = place_other (ds ++ Some D ∷ []) (Some E) i (not_second i g) ∙ place_other ds (Some D) i h

    at_first : (i : ℕ) → (i == length ds) ≡ true → place ((ds ++ Some D ∷ []) ++ Some E ∷ []) i ≡ Some D
    at_first i h =
        let q : i ≡ length ds = eqb-true i (length ds) h in
        place_other (ds ++ Some D ∷ []) (Some E) i (not_second i (ne_eqb i (length ds + 1) (λ t. omega (arith, q, t))))
        ∙ ap (place (ds ++ Some D ∷ [])) q ∙ place_last ds (Some D)

-- a new one that names c, which named nobody and names it now
pub paired-tied : (ds : List (Option Description)) (E C F : Description) (c : ℕ) (f : Description → Description) → Paired ds →
    place ds c ≡ Some C → target_peer C.target ≡ None → target_peer E.target ≡ Some c →
    f C ≡ F → target_peer F.target ≡ Some (length ds) → Paired (changed_place (ds ++ Some E ∷ []) c f)
paired-tied ds E C F c f paired here none new is tied = record {
  returned = λ i p e there. bool_cases (c == i)
      (λ h.
      let q : Some (length ds) ≡ Some p = sym (at_c i h) ∙ e in
      let r : p ≡ length ds = cc q in
      at_new p r ∙ ap Some (eqb-true c i h))
      (λ h. bool_cases (i == length ds)
      (λ g.
      let q : Some c ≡ Some p = sym (at_new i (eqb-true i (length ds) g)) ∙ e in
      let r : c ≡ p = cc q in
      at_c p (eq-eqb c p r) ∙ ap Some (sym (eqb-true i (length ds) g)))
      (λ g.
      let was : peer_in (place ds i) ≡ Some p = sym (ap peer_in (at_old i h g)) ∙ e in
      let p_old : p < length ds = paired.known i p was in
      let p_new : (p == length ds) ≡ false = ne_eqb p (length ds) (λ t. omega (arith, t, p_old)) in
      bool_cases (c == p)
      (λ t.
      let same : c ≡ p = eqb-true c p t in
      let back : peer_in (place ds c) ≡ Some i = ap (λ n. peer_in (place ds n)) same
      ∙ paired.returned i p was (ap (λ n. is_some (place ds n)) (sym same) ∙ ap is_some here) in
      let nobody : peer_in (place ds c) ≡ None = ap peer_in here ∙ none in
      absurd (cc (back, nobody)))
      (λ t. ap peer_in (at_old p t p_new) ∙ paired.returned i p was (sym (ap is_some (at_old p t p_new)) ∙ there))));
  known = λ i p e.
      let a = length_push ds (Some E) in
      let b = length-set (ds ++ Some E ∷ []) c (option_map f (place (ds ++ Some E ∷ []) c)) in
      let short : p < length ds + 1 = bool_cases (c == i)
      (λ h. let q : Some (length ds) ≡ Some p = sym (at_c i h) ∙ e in let r : p ≡ length ds = cc q in omega (arith, r))
      (λ h. bool_cases (i == length ds)
      (λ g. let q : Some c ≡ Some p = sym (at_new i (eqb-true i (length ds) g)) ∙ e in let r : p ≡ c = cc q in omega (arith, r, c_old))
      (λ g. let s = paired.known i p (sym (ap peer_in (at_old i h g)) ∙ e) in omega (arith, s))) in
      omega (arith, a, b, short);
}
  where
    c_old : c < length ds
    c_old = place_within ds c C here

    c_new : (c == length ds) ≡ false
    c_new = ne_eqb c (length ds) (λ t. let a = c_old in omega (arith, t, a))

    at : (i : ℕ) → place (changed_place (ds ++ Some E ∷ []) c f) i ≡ cond (c == i) (option_map f (place (ds ++ Some E ∷ []) i))
        (place (ds ++ Some E ∷ []) i)
    at i = place-changed (ds ++ Some E ∷ []) c i f

    at_c : (i : ℕ) → (c == i) ≡ true → peer_in (place (changed_place (ds ++ Some E ∷ []) c f) i) ≡ Some (length ds)
    at_c i h =
        ap peer_in (at i ∙ ap (λ b. cond b (option_map f (place (ds ++ Some E ∷ []) i)) (place (ds ++ Some E ∷ []) i)) h)
        ∙ ap (λ n. peer_in (option_map f (place (ds ++ Some E ∷ []) n))) (sym (eqb-true c i h))
        ∙ ap (λ x. peer_in (option_map f x)) (place_other ds (Some E) c c_new ∙ here)
        ∙ ap (λ X. target_peer (Description.target X)) is ∙ tied

    at_other : (i : ℕ) → (c == i) ≡ false → place (changed_place (ds ++ Some E ∷ []) c f) i ≡ place (ds ++ Some E ∷ []) i
    at_other i h = at i ∙ ap (λ b. cond b (option_map f (place (ds ++ Some E ∷ []) i)) (place (ds ++ Some E ∷ []) i)) h

    at_new : (i : ℕ) → i ≡ length ds → peer_in (place (changed_place (ds ++ Some E ∷ []) c f) i) ≡ Some c
    at_new i h =
        ap peer_in (at_other i (ne_eqb c i (λ t. let a = c_old in omega (arith, t, h, a))) ∙ ap (place (ds ++ Some E ∷ [])) h
        ∙ place_last ds (Some E)) ∙ new

    at_old : (i : ℕ) → (c == i) ≡ false → (i == length ds) ≡ false → place (changed_place (ds ++ Some E ∷ []) c f) i ≡ place ds i
    at_old i h g = at_other i h ∙ place_other ds (Some E) i g
