-- How the names that autobind may give are kept. No public clause cites this module.
use Rattle.std.specs.Prelude.{◌≡◌, ◌≢◌, ℕ, ◌<◌, Bool, List, length, is_some}
use Rattle.ux_model.specs.Types.{Name}
use Rattle.ux_model.specs.Limits.{autobind_names}
use Rattle.ux_model.specs.Names.{named, autobind_name}
use Rattle.ux_number_sets.specs.Sets.{has_number}

-- the set has the numbers whose names are in use
pub record AreInUse (names : List (Name × ℕ)) (numbers : List Bool) : Type 0 where
  pub all : length numbers ≡ autobind_names
  pub agrees : (n : ℕ) → n < autobind_names → has_number numbers n ≡ is_some (named (autobind_name n) names)

-- the number of a name, if it has one, is put in or taken out
pub record PutsName (old new : List Bool) (name : Name) (is_in : Bool) : Type 0 where
  pub same_length : length new ≡ length old
  pub this : (n : ℕ) → n < autobind_names → autobind_name n ≡ name → has_number new n ≡ is_in
  pub others : (n : ℕ) → n < autobind_names → autobind_name n ≢ name → has_number new n ≡ has_number old n
