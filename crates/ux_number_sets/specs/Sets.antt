-- Sets of numbers: for each number below a capacity, whether it is in the set.
use Rattle.std.specs.Prelude.{◌≡◌, ◌≢◌, ℕ, ◌<◌, ◌≤◌, Bool, true, false, List, length, slice_index_or, Option, MatchOption}

-- from the capacity on no number is in the set
abbrev pub has_number : List Bool → ℕ → Bool
has_number numbers n = slice_index_or numbers n false

-- a set of this capacity in which no number is
pub record IsEmptySet (capacity : ℕ) (numbers : List Bool) : Type 0 where
  pub len : length numbers ≡ capacity
  pub none : (n : ℕ) → has_number numbers n ≡ false

-- the first number, from a number on, that isn't in the set
pub record IsFirstFree (numbers : List Bool) (from n : ℕ) : Type 0 where
  pub within : n < length numbers
  pub after : from ≤ n
  pub free : has_number numbers n ≡ false
  pub before : (i : ℕ) → from ≤ i → i < n → has_number numbers i ≡ true

abbrev pub FindsFirstFree : List Bool → ℕ → Option ℕ → Type 0
FindsFirstFree numbers from answer = MatchOption answer
    ((i : ℕ) → from ≤ i → i < length numbers → has_number numbers i ≡ true)
    (IsFirstFree numbers from)

-- one number is put in or taken out
pub record PutsNumber (old new : List Bool) (n : ℕ) (is_in : Bool) : Type 0 where
  pub same_length : length new ≡ length old
  pub this : has_number new n ≡ is_in
  pub others : (i : ℕ) → i ≢ n → has_number new i ≡ has_number old i
