use Rattle.std.proofs.Common.{rules}
use Rattle.ux_rights.proofs.references.RefListClone.clone.Goals as goal

pub returns : goal.returns
returns c = search rules
