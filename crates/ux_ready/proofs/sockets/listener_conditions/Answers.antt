use Rattle.std.proofs.Common.{rules}
use Rattle.ux_ready.proofs.sockets.listener_conditions.Goals as goal

pub returns-in-Some : goal.returns-in-Some
returns-in-Some c = search rules
