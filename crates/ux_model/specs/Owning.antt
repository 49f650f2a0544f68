-- Whoever a name of the abstract namespace leads to has that name, so that one name at most goes with a socket.
use Rattle.std.specs.Prelude.{◌≡◌, ℕ, Bool, true, false, not, ◌==◌, if◌then◌else◌, List, map, filter, Option, Some, None}
use Rattle.std.specs.List.{AllByRecursion}
use Rattle.ux_model.specs.Types.{Name, Addr}
use Rattle.ux_model.specs.Places.{place}
use Rattle.ux_model.specs.Names.{named, without_name}
use Rattle.ux_model.specs.Description.{Description, Target, to_object, to_socket}
use Rattle.ux_model.specs.State.{State, description_at}
use Rattle.ux_model.specs.Boot.{are_distinct}

abbrev pub abstract_name : Addr → Option Name
abstract_name Addr.Unnamed = None
abstract_name (Addr.Path name) = None
abstract_name (Addr.Abstract name) = Some name

abbrev pub target_name : Target → Option Name
target_name (to_object o) = None
target_name (to_socket s) = abstract_name s.name

-- the abstract name that the socket which is there shows
abbrev pub name_in : Option Description → Option Name
name_in None = None
name_in (Some D) = target_name D.target

-- A server's end shows its listener's name, and none leads to that end.
pub record AreOwned (ds : List (Option Description)) (names : List (Name × ℕ)) : Type 0 where
  -- no name stands there twice
  pub once : are_distinct (map (λ e. e.0) names) ≡ true
  -- and whoever one leads to is there, and shows it
  pub shown : AllByRecursion (λ e. name_in (place ds e.1) ≡ Some e.0) names

abbrev pub is_number : ℕ → Option ℕ → Bool
is_number d None = false
is_number d (Some e) = e == d

-- what is left of the names where d goes, which shows this one: that goes if it leads to d
abbrev pub without_shown : Option Name → ℕ → List (Name × ℕ) → List (Name × ℕ)
without_shown None d names = names
without_shown (Some name) d names = if is_number d (named name names) then without_name name names else names

-- all names of one that goes are the one that it shows, if that leads to it
abbrev pub NameGoes : Type 0
NameGoes = (S : State) (d : ℕ) → AreOwned S.descriptions S.abstract_names →
    without_shown (name_in (description_at S d)) d S.abstract_names ≡ filter (λ e. not (e.1 == d)) S.abstract_names
