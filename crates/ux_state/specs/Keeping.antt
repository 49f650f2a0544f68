-- What a state keeps true of its parts.
use Rattle.std.specs.Prelude.{◌≡◌, ℕ, ◌≤◌, Bool, List, length, Option}
use Rattle.ux_model.specs.Types.{Name}
use Rattle.ux_model.specs.Limits.{raised_object_limit, made_limit}
use Rattle.ux_model.specs.Names.{PathTarget}
use Rattle.ux_model.specs.Object.{View}
use Rattle.ux_model.specs.Description.{Description}
use Rattle.ux_model.specs.Process.{Process}
use Rattle.ux_model.specs.State.{State}
use Rattle.ux_model.specs.References.{refs}
use Rattle.ux_model.specs.Peers.{Paired}
use Rattle.ux_model.specs.Flight.{in_flight}
use Rattle.ux_model.specs.Owning.{AreOwned}
use Rattle.ux_slots.specs.Held.{Held, count_at}
use Rattle.ux_state.specs.declared.openings.Openings.{Openings}
use Rattle.ux_state.specs.Counting.{Counted}
use Rattle.ux_state.specs.Links.{AreLinked}
use Rattle.ux_state.specs.Settling.{AreSettled}

-- the state that contracts see
abbrev pub state_of : List (Option View) → Held Description → List Process → List (Name × PathTarget) → List (Name × ℕ) → State
state_of objects held processes paths names =
    record { objects = objects; descriptions = held.places; processes = processes; paths = paths; abstract_names = names }

-- what is kept beside a state: the objects that the end of a call needn't look at, counts, and descriptions with theirs
pub record IsState (surely : List Bool) (openings : List Openings) (links : List ℕ) (held : Held Description) (flights : ℕ → ℕ)
    (S : State) : Type 0 where
  pub few_objects : length S.objects ≤ raised_object_limit
  pub few_processes : length S.processes ≤ made_limit
  pub one_each : length S.objects ≤ length openings
  pub link_each : length S.objects ≤ length links
  pub opened : Counted S.descriptions openings
  pub linked : AreLinked S.paths links
  pub settled : AreSettled surely openings links S.objects
  -- Each kept count is the number of references. Of a number that no description has, it is 0.
  pub counted : (d : ℕ) → count_at held d ≡ refs S d
  -- Each user's is the number of its rights in flight.
  pub flying : (uid : ℕ) → flights uid ≡ in_flight S uid
  -- connected sockets name one another
  pub paired : Paired S.descriptions
  -- and whoever an abstract name leads to shows it
  pub owned : AreOwned S.descriptions S.abstract_names
