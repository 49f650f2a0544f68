use Rattle.std.proofs.Common.{rules}
use Rattle.ux_ready.proofs.conditions.Conditions.flags.Goals as goal

pub returns-then-self-5 : goal.returns-then-self-5
returns-then-self-5 c = search rules

pub returns-else-self-5 : goal.returns-else-self-5
returns-else-self-5 c = search rules
