use Rattle.std.proofs.Common.{rules}
use Rattle.ux_reply_room.proofs.copying.addr_copy.Goals as goal

pub returns-in-Abstract : goal.returns-in-Abstract
returns-in-Abstract c = search rules
