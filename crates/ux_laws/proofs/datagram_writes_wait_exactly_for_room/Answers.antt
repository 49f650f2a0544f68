use Rattle.ux_laws.proofs.MessageWaits.{datagram_writes_wait_while}
use Rattle.ux_laws.proofs.datagram_writes_wait_exactly_for_room.Goals as goal

pub returns : goal.returns
returns c = datagram_writes_wait_while
