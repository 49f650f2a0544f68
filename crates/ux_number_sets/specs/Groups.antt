-- How a set is kept in groups. No public clause cites this module.
use Rattle.std.specs.Prelude.{◌≡◌, ◌≢◌, ℕ, ◌*◌, ◌/◌, ◌%◌, ◌<◌, ◌≤◌, Bool, true, false, List, [], length, map, slice_index_or}
use Rattle.std.specs.List.{range_with_len}
use Rattle.ux_number_sets.specs.Sets.{has_number, IsEmptySet, PutsNumber}

-- how many numbers a group has
abbrev pub group_len : ℕ
group_len = 4096

-- the numbers in a group; none where the group isn't there yet
abbrev pub group : List (List Bool) → ℕ → List Bool
group groups g = slice_index_or groups g []

-- whether a number is in its group
abbrev pub in_group : List (List Bool) → ℕ → Bool
in_group groups n = has_number (group groups (n / group_len)) (n % group_len)

-- the set of the numbers in so many groups
abbrev pub set_of_groups : List (List Bool) → ℕ → List Bool
set_of_groups groups count = map (in_group groups) (range_with_len 0 (group_len * count))

-- every number of a group is in it
abbrev pub IsFull : List Bool → Type 0
IsFull numbers = (i : ℕ) → i < group_len → has_number numbers i ≡ true

-- a group is in `full` exactly where all its numbers are in it
pub record AreGroups (groups : List (List Bool)) (full : List Bool) : Type 0 where
  pub few : length groups ≤ length full
  pub small : length full ≤ group_len
  pub long : (g : ℕ) → g < length groups → length (group groups g) ≡ group_len
  pub full_groups : (g : ℕ) → g < length full → has_number full g ≡ true → IsFull (group groups g)
  pub open_groups : (g : ℕ) → g < length full → has_number full g ≡ false → IsFull (group groups g) → ⊥

-- further groups were made, in which no number is
pub record AddsGroups (old new : List (List Bool)) : Type 0 where
  pub more : length old ≤ length new
  pub kept : (g : ℕ) → g < length old → group new g ≡ group old g
  pub added : (g : ℕ) → length old ≤ g → g < length new → IsEmptySet group_len (group new g)

-- one number of one group is put in or taken out
pub record PutsInGroup (old new : List (List Bool)) (g i : ℕ) (is_in : Bool) : Type 0 where
  pub same_length : length new ≡ length old
  pub this : PutsNumber (group old g) (group new g) i is_in
  pub others : (h : ℕ) → h ≢ g → group new h ≡ group old h

-- whether a group is full is put at its number
pub record PutsFull (numbers old new : List Bool) (g : ℕ) : Type 0 where
  pub same_length : length new ≡ length old
  pub yes : has_number new g ≡ true → IsFull numbers
  pub no : has_number new g ≡ false → IsFull numbers → ⊥
  pub others : (h : ℕ) → h ≢ g → has_number new h ≡ has_number old h
