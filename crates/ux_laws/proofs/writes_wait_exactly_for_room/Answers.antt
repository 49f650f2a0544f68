use Rattle.ux_laws.proofs.Rooms.{writes_wait_while}
use Rattle.ux_laws.proofs.writes_wait_exactly_for_room.Goals as goal

pub returns : goal.returns
returns c = writes_wait_while
