-- A list of places, where another thing or nothing stands in one of them, or one more is added.
use Rattle.std.proofs.Common.{◌≡◌, ◌⊎◌, inl, inr, ⊎_elim, ℕ, zero, suc, ◌+◌, ◌≤◌, ◌<◌, true, List, [], ◌∷◌, ◌++◌, length, set, sum_by}
use Rattle.std.proofs.Common.{Option}
use Rattle.std.proofs.Common.{None, is_some, refl, ap, arith}
use Rattle.std.proofs.lemmas.List.Sums.{sum_by-cons}
use Rattle.ux_model.specs.Places.{place}

-- what is the same of it is the same of each place
pub same_at : {X Y : Type 0} (g : Option X → Y) (xs : List (Option X)) (n i : ℕ) (x : Option X) → g x ≡ g (place xs n) →
    g (place (set xs n x) i) ≡ g (place xs i)
same_at g [] n i x h = refl
same_at g (y ∷ xs) zero zero x h = h
same_at g (y ∷ xs) zero (suc i) x h = refl
same_at g (y ∷ xs) (suc n) zero x h = refl
same_at g (y ∷ xs) (suc n) (suc i) x h = same_at g xs n i x h

-- and what counts so much more makes no sum greater by more
pub more_by : {X : Type 0} (f : Option X → ℕ) (xs : List (Option X)) (n more : ℕ) (x : Option X) → f x ≤ f (place xs n) + more →
    sum_by f (set xs n x) ≤ sum_by f xs + more
more_by f [] n more x h = omega arith
more_by f (y ∷ xs) zero more x h =
    let new = sum_by-cons f x xs in
    let old = sum_by-cons f y xs in
    omega (arith, new, old, h)
more_by f (y ∷ xs) (suc n) more x h =
    let new = sum_by-cons f y (set xs n x) in
    let old = sum_by-cons f y xs in
    let rest = more_by f xs n more x h in
    omega (arith, new, old, rest)

pub no_more_by : {X : Type 0} (f : Option X → ℕ) (xs : List (Option X)) (n : ℕ) (x : Option X) → f x ≤ f (place xs n) →
    sum_by f (set xs n x) ≤ sum_by f xs
no_more_by f xs n x h = let all = more_by f xs n 0 x (omega (arith, h)) in omega (arith, all)

-- what holds of a place holds of it then, if it does of what is put there
pub at_each : {X : Type 0} (Q : Option X → Type 0) (xs : List (Option X)) (n i : ℕ) (x : Option X) → Q (place xs i) →
    (n ≡ i → Q (place xs i) → Q x) → Q (place (set xs n x) i)
at_each Q [] n i x h put = h
at_each Q (y ∷ xs) zero zero x h put = put refl h
at_each Q (y ∷ xs) zero (suc i) x h put = h
at_each Q (y ∷ xs) (suc n) zero x h put = h
at_each Q (y ∷ xs) (suc n) (suc i) x h put = at_each Q xs n i x h (λ e. put (ap suc e))

-- ---- one more place

pub before_pushed : {X : Type 0} (xs : List (Option X)) (x : Option X) (i : ℕ) → i < length xs → place (xs ++ x ∷ []) i ≡ place xs i
before_pushed [] x i h = absurd (omega (arith, h))
before_pushed (y ∷ xs) x zero h = refl
before_pushed (y ∷ xs) x (suc i) h = before_pushed xs x i (omega (arith, h))

-- each place is as it was, or the new one
pub pushed_or_same : {X : Type 0} (xs : List (Option X)) (x : Option X) (i : ℕ) → (place (xs ++ x ∷ []) i ≡ place xs i) ⊎ (length xs ≡ i)
pushed_or_same [] x zero = inr refl
pushed_or_same [] x (suc i) = inl refl
pushed_or_same (y ∷ xs) x zero = inl refl
pushed_or_same (y ∷ xs) x (suc i) = ⊎_elim (λ h. inl h) (λ h. inr (ap suc h)) (pushed_or_same xs x i)

pub there_still : {X : Type 0} (xs ys : List (Option X)) (i : ℕ) → is_some (place xs i) ≡ true → place (xs ++ ys) i ≡ place xs i
there_still [] ys i h = absurd (cc h)
there_still (x ∷ xs) ys zero h = refl
there_still (x ∷ xs) ys (suc i) h = there_still xs ys i h

pub past_all : {X : Type 0} (xs : List (Option X)) (i : ℕ) → length xs ≤ i → place xs i ≡ None
past_all [] i h = refl
past_all (x ∷ xs) zero h = absurd (omega (arith, h))
past_all (x ∷ xs) (suc i) h = past_all xs i (omega (arith, h))
