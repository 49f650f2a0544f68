use Rattle.std.proofs.Common.{rules}
use Rattle.ux_reply_room.proofs.room.ReplyRoom.copy.Goals as goal

pub returns-in-Received : goal.returns-in-Received
returns-in-Received c = search rules
