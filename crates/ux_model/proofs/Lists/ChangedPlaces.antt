-- A list of places, one of which is changed.
use Rattle.std.proofs.Common.{◌≡◌, ℕ, zero, suc, ◌+◌, ◌<◌, ◌≤◌, Bool, true, false, ◌==◌, cond, List, [], ◌∷◌, ◌++◌, length, Option, Some}
use Rattle.std.proofs.Common.{None, option_map, sym, ◌∙◌, ap, refl, arith}
use Rattle.std.specs.List.{sum_by}
use Rattle.std.proofs.lemmas.Bool.{eqb-true, eqb-false}
use Rattle.std.proofs.lemmas.List.{get_or-set_other, length-set}
use Rattle.std.proofs.lemmas.List.Sums.{sum_by-cons}
use Rattle.ux_model.specs.Places.{place, changed_place}

-- something stands inside the list
pub place_within : {X : Type 0} (ds : List (Option X)) (n : ℕ) (D : X) → place ds n ≡ Some D → n < length ds
place_within [] n D e = absurd (cc e)
place_within (x ∷ xs) zero D e = omega arith
place_within (x ∷ xs) (suc n) D e = let h = place_within xs n D e in omega (arith, h)

pub bool_cases : {P : Type 0} (b : Bool) → (b ≡ true → P) → (b ≡ false → P) → P
bool_cases true on off = on refl
bool_cases false on off = off refl

-- what is left up to a greater number
pub rest_of : (a b : ℕ) → a ≤ b → (c : ℕ) × (a + c ≡ b)
rest_of zero b h = (b, omega arith)
rest_of (suc a) zero h = absurd (omega (arith, h))
rest_of (suc a) (suc b) h = let rest = rest_of a b (omega (arith, h)) in let is : a + rest.0 ≡ b = rest.1 in (rest.0, omega (arith, is))

pub changed_here : {X : Type 0} (ds : List (Option X)) (i : ℕ) (f : X → X) → place (changed_place ds i f) i ≡ option_map f (place ds i)
changed_here [] i f = refl
changed_here (x ∷ xs) zero f = refl
changed_here (x ∷ xs) (suc i) f = changed_here xs i f

-- a change before one more is pushed, and after
pub changed_push : {X : Type 0} (xs : List (Option X)) (n : ℕ) (f : X → X) (x : Option X) → n < length xs →
    changed_place (xs ++ x ∷ []) n f ≡ changed_place xs n f ++ x ∷ []
changed_push [] n f x h = absurd (omega (arith, h))
changed_push (y ∷ ys) zero f x h = refl
changed_push (y ∷ ys) (suc n) f x h = ap (λ l. y ∷ l) (changed_push ys n f x (omega (arith, h)))

-- what stands at i, where place p was changed
pub place-changed : {X : Type 0} (ds : List (Option X)) (p i : ℕ) (f : X → X) →
    place (changed_place ds p f) i ≡ cond (p == i) (option_map f (place ds i)) (place ds i)
place-changed ds p i f = bool_cases (p == i)
    (λ h. ap (λ n. place (changed_place ds n f) i) (eqb-true p i h) ∙ changed_here ds i f
    ∙ sym (ap (λ b. cond b (option_map f (place ds i)) (place ds i)) h))
    (λ h. get_or-set_other ds p i (option_map f (place ds p)) None (λ e. eqb-false p i h (sym e))
    ∙ sym (ap (λ b. cond b (option_map f (place ds i)) (place ds i)) h))

pub length-changed : {X : Type 0} (ds : List (Option X)) (p : ℕ) (f : X → X) → length (changed_place ds p f) ≡ length ds
length-changed ds p f = length-set ds p (option_map f (place ds p))

-- a change of one place, by how much more and less that counts
pub sum_by-changed : {X : Type 0} (g : Option X → ℕ) (f : X → X) (more less : Option X → ℕ) →
    ((x : Option X) → g (option_map f x) + less x ≡ g x + more x) →
    (ds : List (Option X)) (p : ℕ) → sum_by g (changed_place ds p f) + less (place ds p) ≡ sum_by g ds + more (place ds p)
sum_by-changed g f more less change [] p = let e : g None + less None ≡ g None + more None = change None in omega (arith, e)
sum_by-changed g f more less change (x ∷ xs) zero =
    let a = sum_by-cons g (option_map f x) xs in
    let b = sum_by-cons g x xs in
    let e = change x in
    omega (arith, a, b, e)
sum_by-changed g f more less change (x ∷ xs) (suc p) =
    let a : sum_by g (x ∷ changed_place xs p f) ≡ g x + sum_by g (changed_place xs p f) = sum_by-cons g x (changed_place xs p f) in
    let b = sum_by-cons g x xs in
    let e = sum_by-changed g f more less change xs p in
    omega (arith, a, b, e)
