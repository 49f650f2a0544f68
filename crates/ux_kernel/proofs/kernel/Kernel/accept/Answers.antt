use Rattle.std.proofs.Common.{rules}
use Rattle.ux_model.specs.Accepting.{accept}
use Rattle.ux_kernel.proofs.kernel.Kernel.accept.Goals as goal

pub returns-in_err-end : goal.returns-in_err-end
unfolding accept
returns-in_err-end g c = search rules
