use Rattle.std.proofs.Common.{rules}
use Rattle.ux_model.specs.Closing.{close}
use Rattle.ux_kernel.proofs.kernel.Kernel.close.Goals as goal

pub returns : goal.returns
unfolding close
returns g c = search rules
