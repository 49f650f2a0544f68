use Rattle.std.proofs.Common.{rules}
use Rattle.ux_backlog.proofs.backlog.Backlog.set_limit.Goals as goal

pub returns-clause-pending : goal.returns-clause-pending
returns-clause-pending g c = search rules
