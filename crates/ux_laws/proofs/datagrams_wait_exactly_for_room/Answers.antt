use Rattle.ux_laws.proofs.MessageWaits.{datagrams_wait_while}
use Rattle.ux_laws.proofs.datagrams_wait_exactly_for_room.Goals as goal

pub returns : goal.returns
returns c = datagrams_wait_while
