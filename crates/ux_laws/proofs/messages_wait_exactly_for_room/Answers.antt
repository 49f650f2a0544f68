use Rattle.ux_laws.proofs.MessageWaits.{messages_wait_while}
use Rattle.ux_laws.proofs.messages_wait_exactly_for_room.Goals as goal

pub returns : goal.returns
returns c = messages_wait_while
