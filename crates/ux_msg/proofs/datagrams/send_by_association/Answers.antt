use Rattle.std.proofs.Common.{rules}
use Rattle.ux_msg.proofs.datagrams.send_by_association.Goals as goal

pub returns-then-is_none : goal.returns-then-is_none
returns-then-is_none g c = search rules
