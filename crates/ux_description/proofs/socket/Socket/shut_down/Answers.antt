use Rattle.std.proofs.Common.{rules}
use Rattle.ux_description.proofs.socket.Socket.shut_down.Goals as goal

pub returns : goal.returns
returns c = search rules
