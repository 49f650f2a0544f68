use Rattle.std.proofs.Common.{rules}
use Rattle.ux_kernel.proofs.kernel.Kernel.connect_by.Goals as goal

pub returns : goal.returns
returns g c = search rules
