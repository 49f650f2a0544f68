-- How many calls there are up to a moment of a run, where these are the numbers of the lines that make them.
use Rattle.std.specs.Prelude.{◌≡◌, ◌+◌, ◌<◌, ◌≤◌, ℕ, List, Option, Some, None, IsTrue, is_some, slice_index_or}

-- this line makes none of them
abbrev pub IsOfNone : List (Option ℕ) → ℕ → Type 0
IsOfNone lines l = (i : ℕ) → ¬ (slice_index_or lines i None ≡ Some l)

-- those up to the first that this line makes
abbrev pub IsBehind : List (Option ℕ) → ℕ → ℕ → Type 0
IsBehind lines l n = (first : ℕ) × (n ≡ first + 1) × (slice_index_or lines first None ≡ Some l)
    × ((i : ℕ) → i < first → ¬ (slice_index_or lines i None ≡ Some l))

-- those up to the last that a line makes: none where no line makes one
abbrev pub IsBehindLast : List (Option ℕ) → ℕ → Type 0
IsBehindLast lines n = ((i : ℕ) → n ≤ i → slice_index_or lines i None ≡ None)
    × ((last : ℕ) → n ≡ last + 1 → IsTrue (is_some (slice_index_or lines last None)))
