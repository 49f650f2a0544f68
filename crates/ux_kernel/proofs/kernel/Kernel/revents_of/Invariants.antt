use Rattle.std.proofs.Common.{◌≡◌, map, take}
use Rattle.ux_model.specs.Polling.{revents}
use Rattle.ux_kernel.proofs.kernel.Kernel.revents_of.Given as goal

abbrev pub invariant-loop-one : goal.invariant-loop-one
invariant-loop-one g l = l.found ≡ map (revents l.self l.pid.0) (take l.one-index l.asked)
