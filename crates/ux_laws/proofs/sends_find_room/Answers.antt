use Rattle.ux_laws.proofs.GoingOn.{sends_find_room}
use Rattle.ux_laws.proofs.sends_find_room.Goals as goal

pub returns : goal.returns
returns c = sends_find_room
