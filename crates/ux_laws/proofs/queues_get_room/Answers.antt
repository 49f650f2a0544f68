use Rattle.ux_laws.proofs.RoomsCome.{queues_get_room}
use Rattle.ux_laws.proofs.queues_get_room.Goals as goal

pub returns : goal.returns
returns c = queues_get_room
