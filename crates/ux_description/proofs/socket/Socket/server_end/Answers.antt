use Rattle.std.proofs.Common.{rules}
use Rattle.ux_description.proofs.socket.Socket.server_end.Goals as goal

pub returns : goal.returns
returns c = search rules
