use Rattle.std.proofs.Common.{arith, rules}
use Rattle.std.proofs.lemmas.Grind.{common_steps}
use Rattle.ux_model.specs.Delivery.{delivery}
use Rattle.ux_msg.proofs.delivering.deliver.Goals as goal

pub returns-clause-truncated : goal.returns-clause-truncated
unfolding delivery
returns-clause-truncated g c = grind (arith, common_steps)

pub returns-clause-installed : goal.returns-clause-installed
unfolding delivery
returns-clause-installed g c = search rules
