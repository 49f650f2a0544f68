-- The front of a list that lies in two parts, and two parts put behind one another.
use Rattle.std.proofs.Common.{◌≡◌, ℕ, ◌+◌, ◌-◌, min, List, ◌++◌, length, take, inl, inr, refl, ap, sym, ◌∙◌, arith}
use Rattle.std.proofs.Math.Seq.{take-append-add}
use Rattle.std.proofs.lemmas.Bool.{cases_lt}
use Rattle.std.proofs.lemmas.List.{append-nil, length-append, take_all, take_min, take-append-le}
use Rattle.std.proofs.lemmas.Slice.{take-put_mid}
use borrow.Rule.Slice.PartMut.{put_mid}

first_of_two : (k : ℕ) (older newer : List ℕ) → take k older ++ take (k - min k (length older)) newer ≡ take k (older ++ newer)
first_of_two k older newer = elim (cases_lt (length older) k) [
  | inl past ↦
      let rest : k - min k (length older) ≡ k - length older = omega (arith, past) in
      let sum : length older + (k - length older) ≡ k = omega (arith, past) in
      ap (λ (xs : List ℕ). xs ++ take (k - min k (length older)) newer) (take_all k older (omega (arith, past))) ∙
      ap (λ m. older ++ take m newer) rest ∙
      sym (take-append-add older newer (k - length older)) ∙
      ap (λ m. take m (older ++ newer)) sum
  | inr within ↦
      let none : k - min k (length older) ≡ 0 = omega (arith, within) in
      ap (λ m. take k older ++ take m newer) none ∙ append-nil (take k older) ∙ sym (take-append-le k older newer within)
]

-- so much of the first part, and then the rest from the second
pub front_in_parts : (n k first : ℕ) (older newer items : List ℕ) → older ++ newer ≡ items → k ≡ min n (length items) →
    first ≡ min k (length older) →
    take first older ++ take (k - first) newer ≡ take n items
front_in_parts n k first older newer items whole k_is first_is =
    (λ j. take (first_is j) older ++ take (k - first_is j) newer) ∙
    ap (λ (xs : List ℕ). xs ++ take (k - min k (length older)) newer) (take_min k older) ∙
    first_of_two k older newer ∙
    (λ j. take (k_is j) (whole j)) ∙
    take_min n items

-- the second part written behind the first
pub put_behind : (k : ℕ) (first second one two rest : List ℕ) → one ≡ first → two ≡ second →
    take (length first + length second) (put_mid (length first) k (one ++ rest) two) ≡ first ++ second
put_behind k first second one two rest same_one same_two =
    (λ j. take (length first + length second) (put_mid (length first) k (same_one j ++ rest) (same_two j))) ∙
    take-put_mid (length first) k (first ++ rest) second (length first + length second) refl (omega (arith, length-append first rest)) ∙
    ap (λ (xs : List ℕ). xs ++ second) (take-append-le (length first) first rest (omega arith)
    ∙ take_all (length first) first (omega arith))
