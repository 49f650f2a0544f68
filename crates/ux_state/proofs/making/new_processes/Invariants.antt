use Rattle.std.proofs.Common.{◌≡◌, map, take}
use Rattle.ux_model.specs.Boot.{new_process}
use Rattle.ux_state.proofs.making.new_processes.Given as goal

abbrev pub invariant-loop-spec : goal.invariant-loop-spec
invariant-loop-spec l = l.processes.items ≡ map new_process (take l.spec-index l.procs)
