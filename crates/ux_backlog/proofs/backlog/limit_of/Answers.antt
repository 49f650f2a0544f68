use Rattle.std.proofs.Common.{rules}
use Rattle.ux_backlog.proofs.backlog.limit_of.Goals as goal

pub returns-clause-limit : goal.returns-clause-limit
returns-clause-limit c = search rules

pub returns-clause-at_least : goal.returns-clause-at_least
returns-clause-at_least c = search rules
