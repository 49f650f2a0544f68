-- What one place of a table counts, and what is asked for before many references are counted.
use Rattle.std.specs.Prelude.{◌≡◌, ℕ, ◌+◌, ◌<◌, ◌^◌, cond, if◌then◌else◌, List, length, Option, Some, None, slice_get}
use Rattle.ux_model.specs.Process.{Descriptor}
use Rattle.ux_model.specs.Description.{Description}
use Rattle.ux_model.specs.References.{names_description, table_refs, times}
use Rattle.ux_slots.specs.Held.{Held, count_at}

abbrev pub entry_refs : ℕ → Option Descriptor → ℕ
entry_refs d e = cond (names_description d e) 1 0

-- what exec takes out of a place
abbrev pub closed_on_exec : Option Descriptor → Option Descriptor
closed_on_exec None = None
closed_on_exec (Some e) = if e.cloexec then Some e else None

-- each entry of a table can be counted once more
abbrev pub TableHasRoom : Held Description → List (Option Descriptor) → Type 0
TableHasRoom held table = (d : ℕ) → 0 < table_refs d table → count_at held d + table_refs d table < 2 ^ 64

-- each of them has a reference
abbrev pub AreHeld : Held Description → List ℕ → Type 0
AreHeld held numbers = (d : ℕ) → 0 < times d numbers → 0 < count_at held d

-- each of them can be counted once more for each of all
abbrev pub HaveRoom : Held Description → List ℕ → Type 0
HaveRoom held numbers = (k d : ℕ) → slice_get numbers k ≡ Some d → count_at held d + length numbers < 2 ^ 64
