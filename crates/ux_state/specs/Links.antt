-- How many paths name each file object.
use Rattle.std.specs.Prelude.{◌≡◌, ℕ, ◌+◌, ◌<◌, ◌≤◌, true, List, length, map, count_by, Option, Some, None, slice_index_or}
use Rattle.ux_model.specs.Types.{Name}
use Rattle.ux_model.specs.Names.{PathTarget}
use Rattle.ux_model.specs.References.{path_names}
use Rattle.ux_model.specs.Boot.{are_distinct}
use Rattle.ux_state.specs.Counting.{one_if}

-- how many paths name file object o
abbrev pub links_of : List ℕ → ℕ → ℕ
links_of links o = slice_index_or links o 0

-- what a path with this target counts there
abbrev pub link_at : ℕ → Option PathTarget → ℕ
link_at o None = 0
link_at o (Some target) = one_if (path_names o target)

-- the new counts have one less, of a path with this target
pub record LosesLink (target : Option PathTarget) (old new : List ℕ) : Type 0 where
  pub long : length new ≡ length old
  pub counts : (o : ℕ) → o < length old → links_of new o + link_at o target ≡ links_of old o

pub record LinksEach (paths : List (Name × PathTarget)) (links : List ℕ) : Type 0 where
  -- no path stands there twice
  pub once : are_distinct (map (λ e. e.0) paths) ≡ true
  -- and those of each file object are counted
  pub counted : (o : ℕ) → links_of links o ≡ count_by (λ e. path_names o e.1) paths

-- the same, which proofs open by its name
unfoldable pub AreLinked : List (Name × PathTarget) → List ℕ → Type 0
AreLinked paths links = LinksEach paths links

-- there may be more counts, each of nothing
pub record LinksAlike (old new : List ℕ) : Type 0 where
  pub long : length old ≤ length new
  pub same : (o : ℕ) → links_of new o ≡ links_of old o
