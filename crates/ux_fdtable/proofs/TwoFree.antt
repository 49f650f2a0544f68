-- The lowest free numbers of a table: they are within it, and nothing is open at them.
use Rattle.std.proofs.Common.{◌≡◌, ℕ, zero, suc, ◌+◌, ◌<◌, List, [], ◌∷◌, length, drop, set, Option, Some, None, slice_get, refl, ap, sym}
use Rattle.std.proofs.Common.{◌∙◌, arith}
use Rattle.std.proofs.lemmas.List.{length-drop, get_or-drop, length-set, set-set, set-get_or, get_or-set_other}
use Rattle.ux_model.specs.Places.{place, empty_places_from, filled, emptied}
use Rattle.ux_model.specs.Process.{Descriptor, free_numbers, lowest_free_from, two_lowest_free}

-- each empty place is one of the table's
empty_place : (i k m : ℕ) (xs : List (Option Descriptor)) → slice_get (empty_places_from i xs) k ≡ Some m →
    (n : ℕ) × ((m ≡ i + n) × ((n < length xs) × (place xs n ≡ None)))
empty_place i k m [] h = absurd (cc h)
empty_place i zero m (None ∷ xs) h = let e : i ≡ m = cc h in (zero, (omega (arith, e), (omega arith, refl)))
empty_place i (suc k) m (None ∷ xs) h = let p = empty_place (suc i) k m xs h in
    (suc p.0, (omega (arith, p.1.0), (omega (arith, p.1.1.0), p.1.1.1)))
empty_place i k m (Some y ∷ xs) h = let p = empty_place (suc i) k m xs h in
    (suc p.0, (omega (arith, p.1.0), (omega (arith, p.1.1.0), p.1.1.1)))

pub free_at : (T : List (Option Descriptor)) (k m : ℕ) → slice_get (free_numbers T) k ≡ Some m → (m < length T) × (place T m ≡ None)
free_at T k m h =
    let p = empty_place 0 k m T h in
    let e : m ≡ p.0 = omega (arith, p.1.0) in
    rw e p.1.1

-- so is the lowest that isn't below a minimum
pub free_from_at : (T : List (Option Descriptor)) (minimum m : ℕ) → lowest_free_from minimum T ≡ Some m →
    (m < length T) × (place T m ≡ None)
free_from_at T minimum m h =
    let p = empty_place minimum 0 m (drop minimum T) h in
    let e : m ≡ minimum + p.0 = p.1.0 in
    (omega (arith, e, p.1.1.0, length-drop minimum T), ap (place T) e ∙ sym (get_or-drop minimum T p.0 None) ∙ p.1.1.1)

both_of : (T : List (Option Descriptor)) (a b : ℕ) → two_lowest_free T ≡ Some (a, b) →
    (slice_get (free_numbers T) 0 ≡ Some a) × (slice_get (free_numbers T) 1 ≡ Some b)
both_of T a b h = go (free_numbers T) refl
  where
    go : (fs : List ℕ) → free_numbers T ≡ fs → (slice_get fs 0 ≡ Some a) × (slice_get fs 1 ≡ Some b)
    go [] e = absurd (cc (rw e at h))
    go (f ∷ []) e = absurd (cc (rw e at h))
    go (f ∷ g ∷ fs) e =
        let found : Some (f, g) ≡ Some (a, b) = rw e at h in
        let same : (f, g) ≡ (a, b) = cc found in
        (ap (λ (two : ℕ × ℕ). Some two.0) same, ap (λ (two : ℕ × ℕ). Some two.1) same)

second_above : (i : ℕ) (xs : List (Option Descriptor)) (a b : ℕ) → slice_get (empty_places_from i xs) 0 ≡ Some a →
    slice_get (empty_places_from i xs) 1 ≡ Some b → a < b
second_above i [] a b first second = absurd (cc first)
second_above i (None ∷ xs) a b first second =
    let e : i ≡ a = cc first in
    let p = empty_place (suc i) 0 b xs second in
    omega (arith, e, p.1.0)
second_above i (Some y ∷ xs) a b first second = second_above (suc i) xs a b first second

pub first_inside : (T : List (Option Descriptor)) (a b : ℕ) → two_lowest_free T ≡ Some (a, b) → a < length T
first_inside T a b h = (free_at T 0 a (both_of T a b h).0).0

-- also once the first is taken
pub second_inside : (T : List (Option Descriptor)) (a b : ℕ) (x : Descriptor) → two_lowest_free T ≡ Some (a, b) → b < length (filled T a x)
second_inside T a b x h = omega (arith, length-set T a (Some x), (free_at T 1 b (both_of T a b h).1).0)

-- nothing is open at them, either
pub first_free : (T : List (Option Descriptor)) (a b : ℕ) → two_lowest_free T ≡ Some (a, b) → (a < length T) × (place T a ≡ None)
first_free T a b h = free_at T 0 a (both_of T a b h).0

pub second_free : (T : List (Option Descriptor)) (a b : ℕ) (x : Descriptor) → two_lowest_free T ≡ Some (a, b) →
    (b < length (filled T a x)) × (place (filled T a x) b ≡ None)
second_free T a b x h =
    let both = both_of T a b h in
    let free = free_at T 1 b both.1 in
    let less = second_above 0 T a b both.0 both.1 in (
      omega (arith, length-set T a (Some x), free.0),
      get_or-set_other T a b (Some x) None (λ e. omega (arith, e, less)) ∙ free.1,
    )

-- a number that was taken and is given back
pub taken_back : (T : List (Option Descriptor)) (a b : ℕ) (x : Descriptor) → two_lowest_free T ≡ Some (a, b) → emptied (filled T a x) a ≡ T
taken_back T a b x h = set-set T a (Some x) None ∙ ap (set T a) (sym (free_at T 0 a (both_of T a b h).0).1) ∙ set-get_or T a None
