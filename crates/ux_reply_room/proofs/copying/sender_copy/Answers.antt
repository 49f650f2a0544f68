use Rattle.std.proofs.Common.{rules}
use Rattle.ux_reply_room.proofs.copying.sender_copy.Goals as goal

pub returns-in-Some : goal.returns-in-Some
returns-in-Some c = search rules
