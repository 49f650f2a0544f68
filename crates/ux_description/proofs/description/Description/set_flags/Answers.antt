use Rattle.std.proofs.Common.{rules}
use Rattle.ux_description.proofs.description.Description.set_flags.Goals as goal

pub returns : goal.returns
returns c = search rules
