-- Runs of which all laws of histories hold, and what threads leave.
use Rattle.std.specs.Prelude.{◌≡◌, false, List}
use Rattle.ux_model.specs.Types.{Entry}
use Rattle.ux_model.specs.State.{State}
use Rattle.ux_model.specs.History.{IsLegal, has_live, replay}
use Rattle.ux_syntax.specs.Lines.{Line}
use Rattle.ux_orders.specs.Orders.{entries_of}
use Rattle.ux_orders.specs.declared.ran.Ran.{Ran}
use Rattle.ux_orders.specs.Threads.{AreAll}

-- its entries are a legal history from some state
abbrev pub IsHistory : Ran → Type 0
IsHistory ran = (boot : State) × IsLegal boot (entries_of ran)

-- whatever threads make of these lines, up to where each process has exited or has to wait, no process is left
abbrev pub LeavesNone : State → List Line → Type 0
LeavesNone boot lines = (calls : List Entry) → AreAll boot lines calls → has_live (replay boot calls) ≡ false
