use Rattle.std.proofs.Common.{rules}
use Rattle.ux_ready.proofs.sockets.lost_conditions.Goals as goal

pub returns : goal.returns
returns c = search rules
