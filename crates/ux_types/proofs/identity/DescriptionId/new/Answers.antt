use Rattle.std.proofs.Common.{rules}
use Rattle.ux_types.proofs.identity.DescriptionId.new.Goals as goal

pub returns : goal.returns
returns c = search rules
