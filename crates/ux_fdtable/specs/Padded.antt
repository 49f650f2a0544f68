-- A table whose places are kept as far as they were used.
use Rattle.std.specs.Prelude.{◌≡◌, ℕ, ◌+◌, ◌-◌, ◌<◌, ◌≤◌, Bool, List, [], ◌∷◌, ◌++◌, length, drop, replicate, Option, None, is_some}
use Rattle.std.specs.Prelude.{MatchOption}
use Rattle.std.specs.List.{AllByRecursion}
use Rattle.ux_model.specs.Limits.{table_limit}
use Rattle.ux_model.specs.Places.{place, empty_places_from}
use Rattle.ux_model.specs.Process.{Descriptor}
use Rattle.ux_number_sets.specs.Sets.{has_number}

-- the places of a table, with empty ones up to its limit
abbrev pub padded : List (Option Descriptor) → ℕ → List (Option Descriptor)
padded places limit = places ++ replicate (limit - length places) None

-- the set has the numbers that are open
pub record IsTable (places : List (Option Descriptor)) (limit : ℕ) (in_use : List Bool) : Type 0 where
  pub within : length places ≤ limit
  pub small : limit ≤ table_limit
  pub covered : length in_use ≡ limit
  pub agrees : (i : ℕ) → i < limit → has_number in_use i ≡ is_some (place places i)

-- what a search from a number on finds in a table: no empty place, or the first
abbrev pub FindsFree : List (Option Descriptor) → ℕ → Option ℕ → Type 0
FindsFree table from answer = MatchOption answer
    (empty_places_from from (drop from table) ≡ [])
    (λ n. (n < length table) × (empty_places_from from (drop from table) ≡ n ∷ empty_places_from (n + 1) (drop (n + 1) table)))

-- each of these numbers is below a limit
abbrev pub AreBelow : ℕ → List ℕ → Type 0
AreBelow limit numbers = AllByRecursion (λ n. n < limit) numbers

-- The places reach further, as far as these numbers at most, and are those of the same table.
abbrev pub IsReaching : List ℕ → List (Option Descriptor) → List (Option Descriptor) → Type 0
IsReaching numbers old new =
    (limit : ℕ) (in_use : List Bool) → AreBelow limit numbers → IsTable old limit in_use →
    IsTable new limit in_use × (padded new limit ≡ padded old limit)
