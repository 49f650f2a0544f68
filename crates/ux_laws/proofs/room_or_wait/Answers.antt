use Rattle.ux_laws.proofs.RoomsCome.{room_or_wait}
use Rattle.ux_laws.proofs.room_or_wait.Goals as goal

pub returns : goal.returns
returns c = room_or_wait
