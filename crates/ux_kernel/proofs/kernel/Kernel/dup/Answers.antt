use Rattle.std.proofs.Common.{rules}
use Rattle.ux_model.specs.Descriptors.{dup}
use Rattle.ux_kernel.proofs.kernel.Kernel.dup.Goals as goal

pub returns : goal.returns
unfolding dup
returns g c = search rules
