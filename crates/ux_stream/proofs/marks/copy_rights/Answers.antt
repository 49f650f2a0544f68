use Rattle.std.proofs.Common.{arith}
use Rattle.std.proofs.lemmas.Grind.{common_steps}
use Rattle.ux_stream.proofs.marks.copy_rights.Goals as goal

pub returns-then-not-is_plain-clause-origin : goal.returns-then-not-is_plain-clause-origin
returns-then-not-is_plain-clause-origin g c = grind (arith, common_steps)
