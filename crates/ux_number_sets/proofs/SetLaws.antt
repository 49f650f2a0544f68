-- Lemmas that lead from the bits of words to the set of numbers that they stand for.
use Rattle.std.proofs.Common.{◌≡◌, ℕ, ◌<◌, ◌≤◌, Bool, true, false, List, length, replicate, inl, inr, refl, ap, sym, ◌∙◌, arith}
use Rattle.std.specs.Prelude.{◌==◌, ◌/◌, ◌%◌, if◌then◌else◌, slice_index}
use Rattle.std.specs.Int.{bit_at}
use Rattle.std.proofs.lemmas.Bool.{cases_lt}
use Rattle.std.proofs.lemmas.List.{get_or_past, get_or-replicate, length-replicate}
use Rattle.std.proofs.lemmas.List.FromFn.{length-map-range_with_len, get_or-map-range_with_len}
use Rattle.std.proofs.lemmas.Nat.Bits.{bit_at-zero}
use Rattle.ux_number_sets.specs.Sets.{has_number, IsEmptySet, IsFirstFree, PutsNumber}
use Rattle.ux_number_sets.specs.Bits.{bit_of, set_of_bits, IsFirstBit, PutsBit}

pub set_length : (words : List ℕ) (capacity : ℕ) → length (set_of_bits words capacity) ≡ capacity
set_length words capacity = length-map-range_with_len (λ n. bit_of words n == 1) 0 capacity

pub number_in : (words : List ℕ) (capacity n : ℕ) → n < capacity → has_number (set_of_bits words capacity) n ≡ (bit_of words n == 1)
number_in words capacity n low = get_or-map-range_with_len (λ k. bit_of words k == 1) 0 capacity n n false low (omega arith)

pub free_past : (words : List ℕ) (capacity n : ℕ) → capacity ≤ n → has_number (set_of_bits words capacity) n ≡ false
free_past words capacity n high = get_or_past (set_of_bits words capacity) n false (omega (arith, high, set_length words capacity))

pub in_at : (words : List ℕ) (capacity n : ℕ) → n < capacity → bit_of words n ≡ 1 → has_number (set_of_bits words capacity) n ≡ true
in_at words capacity n low e = number_in words capacity n low ∙ ap (λ b. b == 1) e

pub free_at : (words : List ℕ) (capacity n : ℕ) → n < capacity → bit_of words n ≡ 0 → has_number (set_of_bits words capacity) n ≡ false
free_at words capacity n low e = number_in words capacity n low ∙ ap (λ b. b == 1) e

-- words of which no bit is set
none_set : (k n : ℕ) → bit_of (replicate k 0) n ≡ 0
none_set k n = ap (λ w. bit_at w (n % 64)) (none k (n / 64)) ∙ bit_at-zero (n % 64)
  where
    none : (k i : ℕ) → slice_index (replicate k 0) i ≡ 0
    none k i = elim (cases_lt i k) [
      | inl low ↦ get_or-replicate k i 0 0 low
      | inr high ↦ get_or_past (replicate k 0) i 0 (omega (arith, high, length-replicate {A = ℕ} k 0))
    ]

-- where the words have no bit set, the set is empty
pub none_in : (words : List ℕ) (capacity k : ℕ) → words ≡ replicate k 0 → IsEmptySet capacity (set_of_bits words capacity)
none_in words capacity k e = record {
  len = set_length words capacity;
  none = λ n. elim (cases_lt n capacity) [
    | inl low ↦ free_at words capacity n low (ap (λ ws. bit_of ws n) e ∙ none_set k n)
    | inr high ↦ free_past words capacity n high
  ];
}

pub first_free : (words : List ℕ) (capacity from n : ℕ) → IsFirstBit words from n → n < capacity →
    IsFirstFree (set_of_bits words capacity) from n
first_free words capacity from n found low = record {
  within = omega (arith, low, set_length words capacity);
  after = found.after;
  free = free_at words capacity n low found.clear;
  before = λ i after before. in_at words capacity i (omega arith) (found.before i after before);
}

pub put_number : (old new : List ℕ) (capacity n : ℕ) (is_in : Bool) → n < capacity → PutsBit old new n is_in →
    PutsNumber (set_of_bits old capacity) (set_of_bits new capacity) n is_in
put_number old new capacity n is_in low put = record {
  same_length = set_length new capacity ∙ sym (set_length old capacity);
  this = number_in new capacity n low ∙ ap (λ b. b == 1) put.this ∙ bit is_in;
  others = λ i other. elim (cases_lt i capacity) [
    | inl inside ↦ number_in new capacity i inside ∙ ap (λ b. b == 1) (put.others i other) ∙ sym (number_in old capacity i inside)
    | inr past ↦ free_past new capacity i past ∙ sym (free_past old capacity i past)
  ];
}
  where
    bit : (is_in : Bool) → ((if is_in then 1 else 0) == 1) ≡ is_in
    bit true = refl
    bit false = refl
