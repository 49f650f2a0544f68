use Rattle.std.proofs.Common.{rules}
use Rattle.ux_rights.proofs.installing.rights_fit.Goals as goal

pub returns : goal.returns
returns c = search rules
