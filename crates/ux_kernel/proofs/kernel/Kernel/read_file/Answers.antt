use Rattle.std.proofs.Common.{rules}
use Rattle.ux_kernel.proofs.kernel.Kernel.read_file.Goals as goal

pub returns : goal.returns
returns g c = search rules
