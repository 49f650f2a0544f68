-- Lemmas on bits: of one word, of words, and of the numbers that they stand for.
use Rattle.std.proofs.Common.{◌≡◌, ◌≢◌, ℕ, ◌+◌, ◌-◌, ◌*◌, ◌/◌, ◌%◌, ◌^◌, ◌<◌, ◌≤◌, List, length, inl, inr, ap, sym, ◌∙◌, arith, lit<}
use Rattle.std.specs.Prelude.{slice_index}
use Rattle.std.specs.Int.{bit_at, w64, trailing_ones}
use Rattle.std.specs.Int.RustNames.{bit_or}
use Rattle.std.proofs.lemmas.Bool.{cases_lt}
use Rattle.std.proofs.lemmas.Nat.Bits.{bit_at-lt, bit_at_or, bit_at_ones, bit_at_ones_above, bit_at-trailing_ones, same_from_bits_below}
use Rattle.std.proofs.lemmas.Nat.{one_shl, or_lt, pow_below}
use Rattle.ux_number_sets.specs.Bits.{bit_of, all_set, IsFirstClearBit, IsFirstOpenWord, IsFirstBit}

-- ---- a word

pub every_bit : (word i : ℕ) → word ≡ all_set → i < 64 → bit_at word i ≡ 1
every_bit word i e within = ap (λ n. bit_at n i) e ∙ bit_at_ones 64 i within

pub from_every_bit : (word : ℕ) → word < 2 ^ 64 → ((i : ℕ) → i < 64 → bit_at word i ≡ 1) → word ≡ all_set
from_every_bit word small h = same_from_bits_below 64 word all_set small (lit< tt) (λ i within. h i within ∙ sym (bit_at_ones 64 i within))

-- with the bits below one set, those are set and the others as before
pub seen_below : (word from i : ℕ) → i < from → bit_at (bit_or word (2 ^ from - 1)) i ≡ 1
seen_below word from i below = omega (arith, bit_at_or word (2 ^ from - 1) i, bit_at_ones from i below, bit_at-lt word i)

pub seen_from : (word from i : ℕ) → from ≤ i → bit_at (bit_or word (2 ^ from - 1)) i ≡ bit_at word i
seen_from word from i after = omega (arith, bit_at_or word (2 ^ from - 1) i, bit_at_ones_above from i after)

pub none_clear : (word from seen i : ℕ) → seen ≡ bit_or word (1 * 2 ^ from % 2 ^ 64 - 1) → from < 64 → seen ≡ all_set → from ≤ i → i < 64 →
    bit_at word i ≡ 1
none_clear word from seen i is room full after within =
    let e : bit_or word (2 ^ from - 1) ≡ all_set = ap (λ m. bit_or word (m - 1)) (sym (one_shl from 64 room)) ∙ sym is ∙ full in
    sym (seen_from word from i after) ∙ every_bit (bit_or word (2 ^ from - 1)) i e within

first_clear_seen : (word from : ℕ) → (bit_or word (2 ^ from - 1) ≢ all_set) → word < 2 ^ 64 → from < 64 →
    IsFirstClearBit word from (trailing_ones w64 (bit_or word (2 ^ from - 1)))
first_clear_seen word from other small inside =
    let seen : ℕ = bit_or word (2 ^ from - 1) in
    let below : seen < 2 ^ 64 = or_lt 64 word (2 ^ from - 1) small (omega (arith, pow_below from 64 inside)) in
    let room : seen + 1 < 2 ^ 64 = omega (arith, below, other) in
    let bit : ℕ = trailing_ones w64 seen in
    let found = bit_at-trailing_ones w64 seen room in
    let after : from ≤ bit = elim (cases_lt bit from) [
      | inl below ↦ absurd (omega (arith, found.1, seen_below word from bit below))
      | inr here ↦ here
    ] in
    record {
      within = found.0;
      after = after;
      clear = sym (seen_from word from bit after) ∙ found.1;
      before = λ i low high. sym (seen_from word from i low) ∙ found.2 i high;
    }

pub first_clear_bit : (word from : ℕ) → word < 2 ^ 64 → from < 64 → (bit_or word (1 * 2 ^ from % 2 ^ 64 - 1) ≢ all_set) →
    IsFirstClearBit word from (trailing_ones w64 (bit_or word (1 * 2 ^ from % 2 ^ 64 - 1)))
first_clear_bit word from small inside open_word =
    rw (one_shl from 64 inside) (first_clear_seen word from (λ e. open_word (rw (one_shl from 64 inside) e)) small inside)

-- ---- numbers in words

-- the bit of a number by its word and its place there
pub bit_of_at : (words : List ℕ) (word bit : ℕ) → bit < 64 → bit_of words (word * 64 + bit) ≡ bit_at (slice_index words word) bit
bit_of_at words word bit within =
    let q : (word * 64 + bit) / 64 ≡ word = omega arith in
    let r : (word * 64 + bit) % 64 ≡ bit = omega arith in
    rw (q, r)

pub set_in_full : (words : List ℕ) (i : ℕ) → slice_index words (i / 64) ≡ all_set → bit_of words i ≡ 1
set_in_full words i e = every_bit (slice_index words (i / 64)) (i % 64) e (omega arith)

pub bit_of_in : (words : List ℕ) (i word : ℕ) → i / 64 ≡ word → bit_of words i ≡ bit_at (slice_index words word) (i % 64)
bit_of_in words i word e = ap (λ w. bit_at (slice_index words w) (i % 64)) e

-- full words from one on, up to another
pub set_between : (words : List ℕ) (from word i : ℕ) → ((w : ℕ) → from ≤ w → w < word → slice_index words w ≡ all_set) → 64 * from ≤ i →
    i / 64 < word → bit_of words i ≡ 1
set_between words from word i full low high = set_in_full words i (full (i / 64) (omega arith) high)

pub clear_in_word : (words : List ℕ) (from word bit : ℕ) → IsFirstOpenWord words from word →
    IsFirstClearBit (slice_index words word) 0 bit → IsFirstBit words (64 * from) (word * 64 + bit)
clear_in_word words from word bit opened found = record {
  within = omega (arith, found.within, opened.within);
  after = omega (arith, opened.after);
  clear = bit_of_at words word bit found.within ∙ found.clear;
  before = λ i low high. elim (cases_lt (i / 64) word) [
    | inl before ↦ set_between words from word i opened.before low before
    | inr here ↦
        let same : i / 64 ≡ word = omega (arith, found.within) in
        bit_of_in words i word same ∙ found.before (i % 64) (omega arith) (omega (arith, found.within))
  ];
}

pub none_in_words : (words : List ℕ) (from i : ℕ) → ((w : ℕ) → from ≤ w → w < length words → slice_index words w ≡ all_set) →
    64 * from ≤ i → i < 64 * length words → bit_of words i ≡ 1
none_in_words words from i full low high = set_between words from (length words) i full low (omega arith)
