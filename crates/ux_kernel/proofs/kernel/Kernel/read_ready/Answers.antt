use Rattle.std.proofs.Common.{arith}
use Rattle.std.proofs.lemmas.Grind.{common_steps}
use Rattle.ux_kernel.proofs.kernel.Kernel.read_ready.Goals as goal

pub returns-after-eq : goal.returns-after-eq
returns-after-eq g c = grind (arith, common_steps)
