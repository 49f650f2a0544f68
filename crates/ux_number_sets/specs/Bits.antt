-- Numbers as the bits of words of 64. No public clause cites this module.
use Rattle.std.specs.Prelude.{◌≡◌, ◌≢◌, ℕ, ◌*◌, ◌/◌, ◌%◌, ◌-◌, ◌^◌, ◌<◌, ◌≤◌, ◌==◌, Bool, if◌then◌else◌, List, length, map, slice_index}
use Rattle.std.specs.Prelude.{Option, MatchOption}
use Rattle.std.specs.List.{range_with_len}
use Rattle.std.specs.Int.{bit_at}

-- the bit of a number
abbrev pub bit_of : List ℕ → ℕ → ℕ
bit_of words n = bit_at (slice_index words (n / 64)) (n % 64)

-- the set of the numbers below a capacity whose bits are set
abbrev pub set_of_bits : List ℕ → ℕ → List Bool
set_of_bits words capacity = map (λ n. bit_of words n == 1) (range_with_len 0 capacity)

-- a word whose bits are all set
abbrev pub all_set : ℕ
all_set = 2 ^ 64 - 1

-- the first bit of a word, from a bit on, that isn't set
pub record IsFirstClearBit (word from bit : ℕ) : Type 0 where
  pub within : bit < 64
  pub after : from ≤ bit
  pub clear : bit_at word bit ≡ 0
  pub before : (i : ℕ) → from ≤ i → i < bit → bit_at word i ≡ 1

abbrev pub FindsClearBit : ℕ → ℕ → Option ℕ → Type 0
FindsClearBit word from answer = MatchOption answer
    ((i : ℕ) → from ≤ i → i < 64 → bit_at word i ≡ 1)
    (IsFirstClearBit word from)

-- the first word, from a word on, that has a bit that isn't set
pub record IsFirstOpenWord (words : List ℕ) (from word : ℕ) : Type 0 where
  pub within : word < length words
  pub after : from ≤ word
  pub opened : slice_index words word ≢ all_set
  pub before : (w : ℕ) → from ≤ w → w < word → slice_index words w ≡ all_set

abbrev pub FindsOpenWord : List ℕ → ℕ → Option ℕ → Type 0
FindsOpenWord words from answer = MatchOption answer
    ((w : ℕ) → from ≤ w → w < length words → slice_index words w ≡ all_set)
    (IsFirstOpenWord words from)

-- the first number, from a number on, whose bit isn't set
pub record IsFirstBit (words : List ℕ) (from n : ℕ) : Type 0 where
  pub within : n < 64 * length words
  pub after : from ≤ n
  pub clear : bit_of words n ≡ 0
  pub before : (i : ℕ) → from ≤ i → i < n → bit_of words i ≡ 1

abbrev pub FindsBit : List ℕ → ℕ → Option ℕ → Type 0
FindsBit words from answer = MatchOption answer
    ((i : ℕ) → from ≤ i → i < 64 * length words → bit_of words i ≡ 1)
    (IsFirstBit words from)

-- the bit of one number is set or cleared
pub record PutsBit (old new : List ℕ) (n : ℕ) (on : Bool) : Type 0 where
  pub same_length : length new ≡ length old
  pub this : bit_of new n ≡ (if on then 1 else 0)
  pub others : (i : ℕ) → i ≢ n → bit_of new i ≡ bit_of old i

-- the bit of a word in `full` is set exactly where all its bits are set
pub record IsSummary (full : ℕ) (words : List ℕ) : Type 0 where
  pub few : length words ≤ 64
  pub full_words : (w : ℕ) → w < length words → bit_at full w ≡ 1 → slice_index words w ≡ all_set
  pub open_words : (w : ℕ) → w < length words → bit_at full w ≡ 0 → slice_index words w ≢ all_set
