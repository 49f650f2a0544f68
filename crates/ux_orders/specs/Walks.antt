-- A walk through all orders of a script.
use Rattle.std.specs.Prelude.{◌≡◌, ◌+◌, ◌≤◌, ◌⊎◌, ℕ, true, false, List, ◌∷◌, ◌++◌}
use Rattle.std.specs.List.{AllByRecursion}
use Rattle.ux_model.specs.Types.{Pid, Entry}
use Rattle.ux_model.specs.State.{State}
use Rattle.ux_syntax.specs.Spelling.{Plan}
use Rattle.ux_orders.specs.declared.ran.Ran.{Ran}
use Rattle.ux_orders.specs.declared.chooser.Ready.{Ready}
use Rattle.ux_orders.specs.declared.exploring.Found.{Found}
use Rattle.ux_orders.specs.declared.each.Walk.{Walk}
use Rattle.ux_orders.specs.Lists.{pids_of}
use Rattle.ux_orders.specs.Outcomes.{Keeps, KeepsAll, IsRun, Cover, is_broken_off}
use Rattle.ux_orders.specs.Threads.{AreAll, IsKnown}
use Rattle.ux_orders.specs.Crews.{is_among}

-- The run was counted, and its outcome kept; or it was broken off, and nothing has changed.
pub data Takes (n : ℕ) (old new : Found) (ran : Ran) : Type 0 where
  kept : is_broken_off ran ≡ false → Keeps n old.outcomes.items new.outcomes.items ran → new.orders ≡ old.orders + 1 → Takes n old new ran
  broken : is_broken_off ran ≡ true → new ≡ old → Takes n old new ran

-- what was found so far is of runs from this state, no more than were begun
pub record IsWalk (boot : State) (s : Plan) (walk : Walk) : Type 0 where
  pub runs : AllByRecursion (IsRun boot s) walk.found.outcomes.items
  pub covered : Cover boot s walk.found.orders walk.found.outcomes.items
  pub few : walk.found.orders ≤ walk.begun
  pub within : walk.begun ≤ walk.limit

-- outcomes only grow, and is_all never returns to true
pub record Grows (s : Plan) (old new : Walk) : Type 0 where
  pub all : new.found.is_all ≡ true → old.found.is_all ≡ true
  pub outcomes : KeepsAll s old.found.outcomes.items new.found.outcomes.items
  pub limit : new.limit ≡ old.limit

-- the next of these processes is one that is ready
pub record GoesOn (pids : List Pid) (ready : List Ready) : Type 0 where
  pub pid : Pid
  pub more : List Pid
  pub first : pids ≡ pid ∷ more
  pub among : is_among pid ready ≡ true

-- each history that begins with calls of these processes is known, or goes on with one of those that are ready
abbrev pub Leads : State → Plan → List Ran → List Pid → List Ready → Type 0
Leads boot s outcomes pids ready =
    (calls : List Entry) (more : List Pid) → AreAll boot s.lines calls → pids_of calls ≡ pids ++ more →
    IsKnown boot s outcomes calls ⊎ GoesOn more ready
