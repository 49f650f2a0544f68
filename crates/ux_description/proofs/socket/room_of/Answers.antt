use Rattle.std.proofs.Common.{rules}
use Rattle.ux_description.proofs.socket.room_of.Goals as goal

pub returns : goal.returns
returns c = search rules
