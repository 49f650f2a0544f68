-- Outcomes that are kept, and the runs that they stand for.
use Rattle.std.proofs.Common.{◌≡◌, ◌+◌, ◌<◌, ◌≤◌, inl, inr, ⊎_elim, ℕ, zero, suc, false, List, [], ◌∷◌, ◌++◌, length, refl, sym, ap, ◌∙◌}
use Rattle.std.proofs.Common.{subst, arith, slice_set}
use Rattle.std.specs.Prelude.{slice_index_or}
use Rattle.std.proofs.lemmas.List.{length-append}
use Rattle.std.specs.List.{AllByRecursion}
use Rattle.ux_model.specs.State.{State}
use Rattle.ux_syntax.specs.Spelling.{Plan, known_count}
use Rattle.ux_orders.specs.declared.ran.Ran.{Ran}
use Rattle.ux_orders.specs.Orders.{entries_of}
use Rattle.ux_orders.specs.Outcomes.{SameOutcome, HasOutcome, Keeps, IsRun, Cover, is_broken_off}

pub same_then : (n : ℕ) (a b c : Ran) → SameOutcome n a b → SameOutcome n b c → SameOutcome n a c
same_then n (Ran.Whole a) (Ran.Whole b) (Ran.Whole c) f g = λ p within. f p within ∙ g p within
same_then n (Ran.Deadlock a v) (Ran.Deadlock b w) (Ran.Deadlock c x) f g = (f.0 ∙ g.0, λ p within. f.1 p within ∙ g.1 p within)
same_then n (Ran.Whole a) (Ran.Whole b) (Ran.Deadlock c x) f g = absurd g
same_then n (Ran.Whole a) (Ran.Whole b) (Ran.BrokenOff c) f g = absurd g
same_then n (Ran.Whole a) (Ran.Deadlock b w) c f g = absurd f
same_then n (Ran.Whole a) (Ran.BrokenOff b) c f g = absurd f
same_then n (Ran.Deadlock a v) (Ran.Deadlock b w) (Ran.Whole c) f g = absurd g
same_then n (Ran.Deadlock a v) (Ran.Deadlock b w) (Ran.BrokenOff c) f g = absurd g
same_then n (Ran.Deadlock a v) (Ran.Whole b) c f g = absurd f
same_then n (Ran.Deadlock a v) (Ran.BrokenOff b) c f g = absurd f
same_then n (Ran.BrokenOff a) (Ran.Whole b) c f g = absurd f
same_then n (Ran.BrokenOff a) (Ran.Deadlock b w) c f g = absurd f
same_then n (Ran.BrokenOff a) (Ran.BrokenOff b) c f g = absurd f

pub same_back : (n : ℕ) (a b : Ran) → SameOutcome n a b → SameOutcome n b a
same_back n (Ran.Whole a) (Ran.Whole b) f = λ p within. sym (f p within)
same_back n (Ran.Deadlock a v) (Ran.Deadlock b w) f = (sym f.0, λ p within. sym (f.1 p within))
same_back n (Ran.Whole a) (Ran.Deadlock b w) f = absurd f
same_back n (Ran.Whole a) (Ran.BrokenOff b) f = absurd f
same_back n (Ran.Deadlock a v) (Ran.Whole b) f = absurd f
same_back n (Ran.Deadlock a v) (Ran.BrokenOff b) f = absurd f
same_back n (Ran.BrokenOff a) (Ran.Whole b) f = absurd f
same_back n (Ran.BrokenOff a) (Ran.Deadlock b w) f = absurd f
same_back n (Ran.BrokenOff a) (Ran.BrokenOff b) f = absurd f

-- a run that wasn't broken off has its own outcome
pub same_self : (n : ℕ) (a : Ran) → is_broken_off a ≡ false → SameOutcome n a a
same_self n (Ran.Whole a) e = λ p within. refl
same_self n (Ran.Deadlock a v) e = (refl, λ p within. refl)
same_self n (Ran.BrokenOff a) e = absurd cc

has_more : (n : ℕ) (xs : List Ran) (ran r : Ran) → HasOutcome n xs r → HasOutcome n (xs ++ ran ∷ []) r
has_more n [] ran r has = absurd has
has_more n (x ∷ xs) ran r has = ⊎_elim {C = HasOutcome n (x ∷ xs ++ ran ∷ []) r} (λ here. inl here)
    (λ more. inr (has_more n xs ran r more)) has

has_last : (n : ℕ) (xs : List Ran) (ran : Ran) → SameOutcome n ran ran → HasOutcome n (xs ++ ran ∷ []) ran
has_last n [] ran same = inl (same, omega arith)
has_last n (x ∷ xs) ran same = inr (has_last n xs ran same)

has_set : (n : ℕ) (xs : List Ran) (i : ℕ) (ran r : Ran) → i < length xs → SameOutcome n ran (slice_index_or xs i ran) →
    length (entries_of ran) ≤ length (entries_of (slice_index_or xs i ran)) → HasOutcome n xs r → HasOutcome n (slice_set xs i ran) r
has_set n [] i ran r inside same short has = absurd has
has_set n (x ∷ xs) zero ran r inside same short has =
    ⊎_elim {C = HasOutcome n (ran ∷ xs) r}
    (λ here. inl (same_then n r x ran here.0 (same_back n ran x same), let long = here.1 in omega (arith, long, short)))
    (λ more. inr more)
    has
has_set n (x ∷ xs) (suc i) ran r inside same short has =
    ⊎_elim {C = HasOutcome n (x ∷ slice_set xs i ran) r}
    (λ here. inl here)
    (λ more. inr (has_set n xs i ran r (omega (arith, inside)) same short more))
    has

has_at_set : (n : ℕ) (xs : List Ran) (i : ℕ) (ran : Ran) → i < length xs → SameOutcome n ran ran → HasOutcome n (slice_set xs i ran) ran
has_at_set n [] i ran inside same = absurd (omega (arith, inside))
has_at_set n (x ∷ xs) zero ran inside same = inl (same, omega arith)
has_at_set n (x ∷ xs) (suc i) ran inside same = inr (has_at_set n xs i ran (omega (arith, inside)) same)

has_at : (n : ℕ) (xs : List Ran) (i : ℕ) (ran : Ran) → i < length xs → SameOutcome n ran (slice_index_or xs i ran) →
    length (entries_of (slice_index_or xs i ran)) ≤ length (entries_of ran) → HasOutcome n xs ran
has_at n [] i ran inside same short = absurd (omega (arith, inside))
has_at n (x ∷ xs) zero ran inside same short = inl (same, short)
has_at n (x ∷ xs) (suc i) ran inside same short = inr (has_at n xs i ran (omega (arith, inside)) same short)

all_more : {X : Type 0} (P : X → Type 0) (xs : List X) (x : X) → AllByRecursion P xs → P x → AllByRecursion P (xs ++ x ∷ [])
all_more P [] x all one = (one, all)
all_more P (y ∷ xs) x all one = (all.0, all_more P xs x all.1 one)

all_set : {X : Type 0} (P : X → Type 0) (xs : List X) (i : ℕ) (x : X) → AllByRecursion P xs → P x → AllByRecursion P (slice_set xs i x)
all_set P [] i x all one = all
all_set P (y ∷ xs) zero x all one = (one, all.1)
all_set P (y ∷ xs) (suc i) x all one = (all.0, all_set P xs i x all.1 one)

all_weaker : {X : Type 0} (P Q : X → Type 0) → ((x : X) → P x → Q x) → (xs : List X) → AllByRecursion P xs → AllByRecursion Q xs
all_weaker P Q f [] all = all
all_weaker P Q f (x ∷ xs) all = (f x all.0, all_weaker P Q f xs all.1)

-- what is kept is of runs still
pub keeps_runs : (P : Ran → Type 0) (n : ℕ) (old new : List Ran) (ran : Ran) → Keeps n old new ran → AllByRecursion P old → P ran →
    AllByRecursion P new
keeps_runs P n old new ran (Keeps.added e) all one = subst (λ (xs : List Ran). AllByRecursion P xs) (sym e) (all_more P old ran all one)
keeps_runs P n old new ran (Keeps.replaced i inside same short e) all one =
    subst (λ (xs : List Ran). AllByRecursion P xs) (sym e) (all_set P old i ran all one)
keeps_runs P n old new ran (Keeps.known i inside same short e) all one = subst (λ (xs : List Ran). AllByRecursion P xs) (sym e) all

pub keeps_old : (n : ℕ) (old new : List Ran) (ran r : Ran) → Keeps n old new ran → HasOutcome n old r → HasOutcome n new r
keeps_old n old new ran r (Keeps.added e) has = subst (λ (xs : List Ran). HasOutcome n xs r) (sym e) (has_more n old ran r has)
keeps_old n old new ran r (Keeps.replaced i inside same short e) has =
    subst (λ (xs : List Ran). HasOutcome n xs r) (sym e) (has_set n old i ran r inside same short has)
keeps_old n old new ran r (Keeps.known i inside same short e) has = subst (λ (xs : List Ran). HasOutcome n xs r) (sym e) has

pub keeps_own : (n : ℕ) (old new : List Ran) (ran : Ran) → is_broken_off ran ≡ false → Keeps n old new ran → HasOutcome n new ran
keeps_own n old new ran ended (Keeps.added e) =
    subst (λ (xs : List Ran). HasOutcome n xs ran) (sym e) (has_last n old ran (same_self n ran ended))
keeps_own n old new ran ended (Keeps.replaced i inside same short e) =
    subst (λ (xs : List Ran). HasOutcome n xs ran) (sym e) (has_at_set n old i ran inside (same_self n ran ended))
keeps_own n old new ran ended (Keeps.known i inside same short e) =
    subst (λ (xs : List Ran). HasOutcome n xs ran) (sym e) (has_at n old i ran inside same short)

length_more : {X : Type 0} (xs : List X) (x : X) → length (xs ++ x ∷ []) ≡ length xs + 1
length_more xs x = length-append xs (x ∷ [])

-- one more run, whose outcome is kept
pub cover_more : (boot : State) (s : Plan) (orders : ℕ) (old new : List Ran) (ran : Ran) → Cover boot s orders old → IsRun boot s ran →
    Keeps (known_count s) old new ran → Cover boot s (orders + 1) new
cover_more boot s orders old new ran cover run keeps =
    let n = known_count s in
    record {
      runs = cover.runs ++ ran ∷ [];
      counted = length_more cover.runs ran ∙ ap (λ (m : ℕ). m + 1) cover.counted;
      each = all_more (IsRun boot s) cover.runs ran cover.each run;
      covered = all_more (HasOutcome n new) cover.runs ran
          (all_weaker (HasOutcome n old) (HasOutcome n new) (λ r has. keeps_old n old new ran r keeps has) cover.runs cover.covered)
          (keeps_own n old new ran run.ended keeps);
    }
