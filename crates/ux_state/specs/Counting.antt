-- Kept counts of the descriptions of each file object.
use Rattle.std.specs.Prelude.{◌≡◌, ℕ, ◌+◌, ◌<◌, ◌≤◌, ◌^◌, Bool, cond, List, length, count_by, Option, Some, slice_index_or}
use Rattle.ux_model.specs.Types.{Mode}
use Rattle.ux_model.specs.Flags.{can_read, can_write}
use Rattle.ux_model.specs.Description.{Description, object_of}
use Rattle.ux_model.specs.FileObjects.{is_opening}
use Rattle.ux_state.specs.declared.openings.Openings.{Openings}

abbrev pub one_if : Bool → ℕ
one_if b = cond b 1 0

abbrev pub none_open : Openings
none_open = record { readers = 0; writers = 0 }

-- the counts of file object o
abbrev pub counts_of : List Openings → ℕ → Openings
counts_of openings o = slice_index_or openings o none_open

-- with one more description that is open for this
abbrev pub more : Mode → Openings → Openings
more mode counts = record { readers = counts.readers + one_if (can_read mode); writers = counts.writers + one_if (can_write mode) }

-- the new counts have this description more than the old
pub record CountsOneMore (D : Description) (old new : List Openings) : Type 0 where
  pub long : length new ≡ length old
  pub readers : (o : ℕ) → o < length old → (counts_of new o).readers ≡ (counts_of old o).readers + one_if (is_opening can_read o (Some D))
  pub writers : (o : ℕ) → o < length old → (counts_of new o).writers ≡ (counts_of old o).writers + one_if (is_opening can_write o (Some D))

-- one more can be counted
pub record HasRoom (openings : List Openings) : Type 0 where
  pub readers : (o : ℕ) → o < length openings → (counts_of openings o).readers + 1 < 2 ^ 128
  pub writers : (o : ℕ) → o < length openings → (counts_of openings o).writers + 1 < 2 ^ 128

-- this description was counted
pub record IsAmong (D : Description) (openings : List Openings) : Type 0 where
  pub readers : (o : ℕ) → o < length openings → one_if (is_opening can_read o (Some D)) ≤ (counts_of openings o).readers
  pub writers : (o : ℕ) → o < length openings → one_if (is_opening can_write o (Some D)) ≤ (counts_of openings o).writers

-- the counts are those of these descriptions, none of which leads to what isn't counted
pub record CountsEach (descriptions : List (Option Description)) (openings : List Openings) : Type 0 where
  pub readers : (o : ℕ) → (counts_of openings o).readers ≡ count_by (is_opening can_read o) descriptions
  pub writers : (o : ℕ) → (counts_of openings o).writers ≡ count_by (is_opening can_write o) descriptions

-- the same, which proofs open by its name, since they find too much in it
unfoldable pub Counted : List (Option Description) → List Openings → Type 0
Counted descriptions openings = CountsEach descriptions openings

-- the file object that a description leads to, if it leads to one, has counts
abbrev pub IsInside : Description → List Openings → Type 0
IsInside D openings = (o : ℕ) → object_of D.target ≡ Some o → o < length openings

-- there may be more counts, each of nothing
pub record CountsAlike (old new : List Openings) : Type 0 where
  pub long : length old ≤ length new
  pub same : (o : ℕ) → counts_of new o ≡ counts_of old o
