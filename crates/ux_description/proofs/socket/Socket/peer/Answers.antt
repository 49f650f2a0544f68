use Rattle.std.proofs.Common.{rules}
use Rattle.ux_description.proofs.socket.Socket.peer.Goals as goal

pub returns-in-Connected : goal.returns-in-Connected
returns-in-Connected c = search rules
