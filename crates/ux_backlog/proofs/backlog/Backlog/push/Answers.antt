use Rattle.std.proofs.Common.{rules}
use Rattle.ux_backlog.proofs.backlog.Backlog.push.Goals as goal

pub returns-clause-ok : goal.returns-clause-ok
returns-clause-ok g c = search rules
