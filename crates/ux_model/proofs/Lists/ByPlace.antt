-- Lists by place: fronts, what stands where, and which numbers are in one.
use Rattle.std.proofs.Common.{◌≡◌, ◌≢◌, ℕ, zero, suc, ◌<◌, ◌≤◌, true, ◌==◌, ◌||◌, eq-eqb, List, [], ◌∷◌, ◌++◌, length, take, Some, refl, ap}
use Rattle.std.proofs.Common.{sym, ◌∙◌, arith, slice_get, slice_set}
use Rattle.std.specs.List.{list_any}
use Rattle.std.proofs.lemmas.Bool.{eqb-true}
use Rattle.ux_model.proofs.Lists.ChangedPlaces.{bool_cases}

-- ---- fronts

pub take_within : {X : Type 0} (xs : List X) (n i : ℕ) → i ≤ n → take i (take n xs) ≡ take i xs
take_within [] zero zero h = refl
take_within [] zero (suc i) h = refl
take_within [] (suc n) zero h = refl
take_within [] (suc n) (suc i) h = refl
take_within (y ∷ ys) zero zero h = refl
take_within (y ∷ ys) zero (suc i) h = absurd (omega (arith, h))
take_within (y ∷ ys) (suc n) zero h = refl
take_within (y ∷ ys) (suc n) (suc i) h = ap (λ l. y ∷ l) (take_within ys n i (omega (arith, h)))

pub take_none : {X : Type 0} (xs : List X) → take 0 xs ≡ []
take_none [] = refl
take_none (x ∷ xs) = refl

pub length_front : {X : Type 0} (xs : List X) (n : ℕ) → n ≤ length xs → length (take n xs) ≡ n
length_front [] zero h = refl
length_front [] (suc n) h = absurd (omega (arith, h))
length_front (x ∷ xs) zero h = refl
length_front (x ∷ xs) (suc n) h = let e = length_front xs n (omega (arith, h)) in omega (arith, e)

pub take_few : {X : Type 0} (n : ℕ) (xs : List X) → length (take n xs) ≤ n
take_few zero [] = omega arith
take_few zero (x ∷ xs) = omega arith
take_few (suc n) [] = omega arith
take_few (suc n) (x ∷ xs) = let h = take_few n xs in omega (arith, h)

pub take_before : {X : Type 0} (xs ys : List X) (i : ℕ) → i ≤ length xs → take i (xs ++ ys) ≡ take i xs
take_before [] [] zero h = refl
take_before [] (y ∷ ys) zero h = refl
take_before [] ys (suc i) h = absurd (omega (arith, h))
take_before (x ∷ xs) ys zero h = refl
take_before (x ∷ xs) ys (suc i) h = ap (λ l. x ∷ l) (take_before xs ys i (omega (arith, h)))

-- ---- what stands where

pub get_below : {X : Type 0} (xs : List X) (i : ℕ) (x : X) → slice_get xs i ≡ Some x → i < length xs
get_below [] i x h = absurd (cc h)
get_below (y ∷ xs) zero x h = omega arith
get_below (y ∷ xs) (suc i) x h = let b = get_below xs i x h in omega (arith, b)

pub get_within : {X : Type 0} (xs : List X) (i : ℕ) → i < length xs → (x : X) × (slice_get xs i ≡ Some x)
get_within [] i h = absurd (omega (arith, h))
get_within (y ∷ xs) zero h = (y, refl)
get_within (y ∷ xs) (suc i) h = get_within xs i (omega (arith, h))

pub get_before : {X : Type 0} (xs ys : List X) (i : ℕ) → i < length xs → slice_get (xs ++ ys) i ≡ slice_get xs i
get_before [] ys i h = absurd (omega (arith, h))
get_before (x ∷ xs) ys zero h = refl
get_before (x ∷ xs) ys (suc i) h = get_before xs ys i (omega (arith, h))

pub get_pushed_other : {X : Type 0} (xs : List X) (x : X) (j : ℕ) → length xs ≢ j → slice_get (xs ++ x ∷ []) j ≡ slice_get xs j
get_pushed_other [] x zero h = absurd (h refl)
get_pushed_other [] x (suc j) h = refl
get_pushed_other (y ∷ xs) x zero h = refl
get_pushed_other (y ∷ xs) x (suc j) h = get_pushed_other xs x j (λ e. h (ap suc e))

pub get_set_same : {X : Type 0} (xs : List X) (i : ℕ) (x y : X) → slice_get xs i ≡ Some y → slice_get (slice_set xs i x) i ≡ Some x
get_set_same [] i x y h = absurd (cc h)
get_set_same (z ∷ xs) zero x y h = refl
get_set_same (z ∷ xs) (suc i) x y h = get_set_same xs i x y h

pub get_set_other : {X : Type 0} (xs : List X) (i j : ℕ) (x : X) → i ≢ j → slice_get (slice_set xs i x) j ≡ slice_get xs j
get_set_other [] i j x h = refl
get_set_other (z ∷ xs) zero zero x h = absurd (h refl)
get_set_other (z ∷ xs) zero (suc j) x h = refl
get_set_other (z ∷ xs) (suc i) zero x h = refl
get_set_other (z ∷ xs) (suc i) (suc j) x h = get_set_other xs i j x (λ e. h (ap suc e))

-- ---- which numbers stand in a list

pub member_place : (ns : List ℕ) (n : ℕ) → list_any (λ m. m == n) ns ≡ true → (i : ℕ) × (slice_get ns i ≡ Some n)
member_place [] n h = absurd (cc h)
member_place (m ∷ ns) n h = bool_cases (m == n)
    (λ e. (0, ap (λ k. Some k) (eqb-true m n e)))
    (λ e. let rest : list_any (λ m. m == n) ns ≡ true = sym (ap (λ b. b || list_any (λ m. m == n) ns) e) ∙ h in
    let p = member_place ns n rest in (suc p.0, p.1))

pub place_member : (ns : List ℕ) (n i : ℕ) → slice_get ns i ≡ Some n → list_any (λ m. m == n) ns ≡ true
place_member [] n i h = absurd (cc h)
place_member (m ∷ ns) n zero h = let e : m ≡ n = cc h in ap (λ b. b || list_any (λ m. m == n) ns) (eq-eqb m n e)
place_member (m ∷ ns) n (suc i) h = bool_cases (m == n)
    (λ e. ap (λ b. b || list_any (λ m. m == n) ns) e)
    (λ e. ap (λ b. b || list_any (λ m. m == n) ns) e ∙ place_member ns n i h)
