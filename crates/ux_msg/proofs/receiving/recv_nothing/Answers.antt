use Rattle.std.proofs.Common.{rules}
use Rattle.ux_msg.proofs.receiving.recv_nothing.Goals as goal

pub returns-then-reset : goal.returns-then-reset
returns-then-reset g c = search rules
