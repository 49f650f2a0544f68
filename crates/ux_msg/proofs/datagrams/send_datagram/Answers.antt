use Rattle.std.proofs.Common.{rules}
use Rattle.ux_msg.proofs.datagrams.send_datagram.Goals as goal

pub returns-in-Some-addr : goal.returns-in-Some-addr
returns-in-Some-addr g c = search rules
