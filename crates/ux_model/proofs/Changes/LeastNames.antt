-- That the name which autobind gives is that of the least number whose name isn't used.
use Rattle.std.proofs.Common.{◌≡◌, ℕ, zero, suc, ◌+◌, ◌≤◌, ◌<◌, Bool, true, false, Option, Some, None, inl, inr, refl, ap, sym, ◌∙◌, arith}
use Rattle.std.proofs.lemmas.Bool.{cases_eq}
use Rattle.ux_model.specs.Types.{Name}
use Rattle.ux_model.specs.Limits.{autobind_names}
use Rattle.ux_model.specs.Names.{autobind_name, is_unused, IsFreeName, lowest_from, free_name, FreeNameIsLeast}

-- of so many numbers, from start on, the lowest that passes a test, if one does
abbrev IsLowest : (ℕ → Bool) → ℕ → ℕ → Option ℕ → Type 0
IsLowest test start more (Some n) = (n < start + more) × (test n ≡ true) × ((k : ℕ) → start ≤ k → k < n → test k ≡ false)
IsLowest test start more None = (k : ℕ) → start ≤ k → k < start + more → test k ≡ false

lowest_is : (test : ℕ → Bool) (start more : ℕ) → IsLowest test start more (lowest_from test start more)
lowest_is test start zero = λ k low high. absurd (omega (arith, low, high))
lowest_is test start (suc more) = go (lowest_is test (suc start) more) (test start) refl
  where
    -- start itself fails, and so do those behind it
    behind : (n : ℕ) → test start ≡ false → ((k : ℕ) → suc start ≤ k → k < n → test k ≡ false) → (k : ℕ) → start ≤ k → k < n →
        test k ≡ false
    behind n fails later k low high = elim (cases_eq start k) [
      | inl here ↦ ap test (sym here) ∙ fails
      | inr other ↦ later k (omega (arith, low, other)) high
    ]

    further : (o : Option ℕ) → test start ≡ false → IsLowest test (suc start) more o → IsLowest test start (suc more) o
    further (Some n) fails is = (omega (arith, is.0), is.1, behind n fails is.2)
    further None fails later = behind (start + suc more) fails (λ k low high. later k low (omega (arith, high)))

    go : IsLowest test (suc start) more (lowest_from test (suc start) more) → (b : Bool) → test start ≡ b →
        IsLowest test start (suc more) (elim b as (λ _. Option ℕ) [ true ↦ Some start | false ↦ lowest_from test (suc start) more ])
    go rest true passes = (omega arith, passes, λ k low high. absurd (omega (arith, low, high)))
    go rest false fails = further (lowest_from test (suc start) more) fails rest

pub free_name_is_least : FreeNameIsLeast
unfolding free_name
free_name_is_least names = go (lowest_from (is_unused names) 0 autobind_names) (lowest_is (is_unused names) 0 autobind_names)
  where
    go : (o : Option ℕ) → IsLowest (is_unused names) 0 autobind_names o →
        IsFreeName names (elim o as (λ _. Option Name) [ None ↦ None | Some n ↦ Some (autobind_name n) ])
    go None fails = λ k high. fails k (omega arith) (omega (arith, high))
    go (Some n) is = (n, omega (arith, is.0), refl, is.1, λ k below. is.2 k (omega arith) below)
