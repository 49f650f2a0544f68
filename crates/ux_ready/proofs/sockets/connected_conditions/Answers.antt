use Rattle.std.proofs.Common.{rules}
use Rattle.ux_ready.proofs.sockets.connected_conditions.Goals as goal

pub returns : goal.returns
returns c = search rules
