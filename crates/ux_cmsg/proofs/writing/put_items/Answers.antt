use Rattle.std.proofs.Common.{arith}
use Rattle.std.proofs.lemmas.Grind.{common_steps}
use Rattle.ux_cmsg.proofs.writing.put_items.Goals as goal

pub returns-else-not-is_empty-2-clause-written : goal.returns-else-not-is_empty-2-clause-written
returns-else-not-is_empty-2-clause-written g c = grind (arith, common_steps)
