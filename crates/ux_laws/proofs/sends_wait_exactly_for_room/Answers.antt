use Rattle.ux_laws.proofs.Rooms.{sends_wait_while}
use Rattle.ux_laws.proofs.sends_wait_exactly_for_room.Goals as goal

pub returns : goal.returns
returns c = sends_wait_while
