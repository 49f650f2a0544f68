use Rattle.std.proofs.Common.{rules}
use Rattle.ux_msg.proofs.receiving.recv_at.Goals as goal

pub returns : goal.returns
returns g c = search rules
