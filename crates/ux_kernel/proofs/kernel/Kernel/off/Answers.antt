use Rattle.std.proofs.Common.{rules}
use Rattle.ux_model.specs.Closing.{off}
use Rattle.ux_kernel.proofs.kernel.Kernel.off.Goals as goal

pub returns-clause-state : goal.returns-clause-state
unfolding off
returns-clause-state g c = search rules
