use Rattle.std.proofs.Common.{rules}
use Rattle.ux_rights.proofs.references.RefList.push.Goals as goal

pub returns-clause-ok : goal.returns-clause-ok
returns-clause-ok c = search rules
