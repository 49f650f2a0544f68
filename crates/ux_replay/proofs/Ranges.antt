-- A walk over all numbers below a bound.
use Rattle.std.proofs.Common.{◌<◌, ℕ, Bool, true, false, length, refl, subst, zero-add, ◌∙◌, arith}
use Rattle.std.specs.Prelude.{IsTrue}
use Rattle.std.specs.Bool.{MatchBool}
use Rattle.std.specs.List.{range_with_len, AllWithin, HoldsAt}
use Rattle.std.proofs.lemmas.List.FromFn.{length-range_with_len, get_or-range_with_len}

-- it says yes exactly where each of them has P, if each of its tests does
pub decides_below : (n : ℕ) (r : Bool) (P : ℕ → Type 0)
    → MatchBool r (AllWithin P (range_with_len 0 n) 0 (length (range_with_len 0 n)))
    ((k : ℕ) × (k < length (range_with_len 0 n)) × HoldsAt (λ p. ¬ P p) (range_with_len 0 n) k)
    → (IsTrue r → (p : ℕ) → p < n → P p) × (((p : ℕ) → p < n → P p) → IsTrue r)
decides_below n true P m = (
  λ _ p h. subst P (get_or-range_with_len 0 n p 0 h ∙ zero-add p)
      (m p 0 (omega arith) (let l = length-range_with_len 0 n in omega (arith, l, h))),
  λ _. refl,
)
decides_below n false P m =
    let h : m.0 < n = (let l = length-range_with_len 0 n in let b = m.1 in omega (arith, l, b)) in
    let no : ¬ P m.0 = subst (λ x. ¬ P x) (get_or-range_with_len 0 n m.0 0 h ∙ zero-add m.0) (m.2 0) in
    (λ t. absurd (cc), λ all. absurd (no (all m.0 h)))
