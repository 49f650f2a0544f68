use Rattle.std.proofs.Common.{◌≡◌, ◌++◌, map, take, drop}
use Rattle.ux_model.specs.Process.{kept_on_exec}
use Rattle.ux_fdtable.proofs.table.Table.close_on_exec.Given as goal

abbrev pub invariant-loop-number : goal.invariant-loop-number
invariant-loop-number l = l.self ≡ map kept_on_exec (take l.number l.initial.self) ++ drop l.number l.initial.self
