use Rattle.std.proofs.Common.{◌≡◌, ◌++◌, map, take, drop}
use Rattle.ux_model.specs.Closing.{with_nothing_open}
use Rattle.ux_state.proofs.release.clear_tables.Given as goal

-- those before the place have nothing open
abbrev pub invariant-loop-process : goal.invariant-loop-process
invariant-loop-process l = l.process-items ≡ map with_nothing_open (take l.process-index l.initial.process-items) ++ drop l.process-index
    l.initial.process-items
