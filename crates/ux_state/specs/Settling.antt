-- Which file objects the end of a call looks at, and what a look does.
use Rattle.std.specs.Prelude.{◌≡◌, ℕ, ◌<◌, ◌≤◌, Bool, true, false, ◌&&◌, ◌==◌, if◌then◌else◌, List, [], ◌∷◌, length, map, Option, Some}
use Rattle.std.specs.Prelude.{None, is_some}
use Rattle.std.specs.Prelude.{option_map}
use Rattle.std.specs.List.{filter}
use Rattle.ux_model.specs.Limits.{raised_object_limit}
use Rattle.ux_model.specs.Places.{place}
use Rattle.ux_model.specs.Names.{PathTarget, file, bound}
use Rattle.ux_model.specs.Object.{View, closed}
use Rattle.ux_model.specs.State.{State}
use Rattle.ux_model.specs.Release.{is_orphan}
use Rattle.ux_number_sets.specs.Sets.{has_number}
use Rattle.ux_state.specs.declared.openings.Openings.{Openings}
use Rattle.ux_state.specs.Counting.{counts_of}
use Rattle.ux_state.specs.Links.{links_of}

-- neither a description nor a path of file object o is counted
abbrev pub is_loose : List Openings → List ℕ → ℕ → Bool
is_loose openings links o = (counts_of openings o).readers == 0 && ((counts_of openings o).writers == 0 && (links_of links o == 0))

-- each that is in the set was closed, or something leads to it; the set has room for all that a layer may have
pub record AreSettled (numbers : List Bool) (openings : List Openings) (links : List ℕ) (objects : List (Option View)) : Type 0 where
  pub long : length numbers ≡ raised_object_limit
  pub held : (o : ℕ) → has_number numbers o ≡ true → (is_some (place objects o) && is_loose openings links o) ≡ false

-- the file object that a path with this target named
abbrev pub file_of : Option PathTarget → Option ℕ
file_of None = None
file_of (Some (file o)) = Some o
file_of (Some (bound d)) = None

-- an object, if there is one, is looked at again
pub record LooksAgain (object : Option ℕ) (old new : List Bool) : Type 0 where
  pub long : length new ≡ length old
  pub others : (o : ℕ) → has_number new o ≡ true → has_number old o ≡ true
  pub this : (o : ℕ) → object ≡ Some o → has_number new o ≡ false

-- ---- one place of a state

-- no place from one on up to another has an orphan
abbrev pub NoOrphans : State → ℕ → ℕ → Type 0
NoOrphans S from to = (i : ℕ) → from ≤ i → i < to → is_orphan S (i, place S.objects i) ≡ false

-- the next place, from one on, at which the end of a call looks
pub record IsNextLook (S : State) (from o : ℕ) : Type 0 where
  pub within : o < length S.objects
  pub after : from ≤ o
  pub before : NoOrphans S from o

-- what a look leaves there
abbrev pub left : State → ℕ × Option View → Option View
left S e = if is_orphan S e then None else e.1

-- how an object comes out
abbrev pub handed : ℕ × Option View → ℕ × Option View
handed e = (e.0, option_map closed e.1)

-- what comes out of this place
abbrev pub handed_from : State → ℕ × Option View → List (ℕ × Option View)
handed_from S e = map handed (filter (is_orphan S) (e ∷ []))
