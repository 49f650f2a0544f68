use Rattle.std.proofs.Common.{rules}
use Rattle.ux_description.proofs.socket.Socket.listen.Goals as goal

pub returns-in-Listening : goal.returns-in-Listening
returns-in-Listening c = search rules
