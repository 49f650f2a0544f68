use Rattle.std.proofs.Common.{rules}
use Rattle.ux_ready.proofs.sockets.sends_at_once.Goals as goal

pub returns-else-is_read_shut : goal.returns-else-is_read_shut
returns-else-is_read_shut g c = search rules
