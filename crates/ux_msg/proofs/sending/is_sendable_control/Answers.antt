use Rattle.std.proofs.Common.{arith}
use Rattle.std.proofs.lemmas.Grind.{common_steps}
use Rattle.ux_msg.proofs.sending.is_sendable_control.Goals as goal

pub returns-after-not-is_empty : goal.returns-after-not-is_empty
returns-after-not-is_empty c = grind (arith, common_steps)
