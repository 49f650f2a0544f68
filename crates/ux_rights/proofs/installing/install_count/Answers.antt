use Rattle.std.proofs.Common.{rules}
use Rattle.ux_rights.proofs.installing.install_count.Goals as goal

pub returns : goal.returns
returns c = search rules
