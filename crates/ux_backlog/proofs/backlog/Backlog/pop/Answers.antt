use Rattle.std.proofs.Common.{rules}
use Rattle.ux_backlog.proofs.backlog.Backlog.pop.Goals as goal

pub returns-clause-oldest : goal.returns-clause-oldest
returns-clause-oldest g c = search rules

pub returns-clause-others : goal.returns-clause-others
returns-clause-others g c = search rules
