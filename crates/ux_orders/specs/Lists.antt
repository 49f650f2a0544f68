-- Orders that are written out.
use Rattle.std.specs.Prelude.{◌≡◌, ◌==◌, List, [], ◌∷◌, ◌++◌, if◌then◌else◌}
use Rattle.ux_model.specs.Types.{Pid, Entry}
use Rattle.ux_orders.specs.declared.ran.Ran.{Ran}
use Rattle.ux_orders.specs.declared.order.Order.{Order}

-- the process of each call, in order; the end of the layer is nobody's
abbrev pub pids_of : List Entry → List Pid
pids_of [] = []
pids_of (e ∷ es) = if e.pid.0 == 0 then pids_of es else e.pid ∷ pids_of es

-- the calls are those of the listed processes, and behind them others; of a run that was broken off, those of the first of them
abbrev pub MakesList : List Pid → Ran → Type 0
MakesList pids (Ran.Whole entries) = (rest : List Pid) × (pids_of entries.items ≡ pids ++ rest)
MakesList pids (Ran.Deadlock entries waits) = (rest : List Pid) × (pids_of entries.items ≡ pids ++ rest)
MakesList pids (Ran.BrokenOff entries) = (rest : List Pid) × (pids ≡ pids_of entries.items ++ rest)

-- so, where the order is written out
abbrev pub MakesOrder : Order → Ran → Type 0
MakesOrder (Order.Drawn draw) ran = Unit {0}
MakesOrder (Order.Listed pids) ran = MakesList pids.items ran
