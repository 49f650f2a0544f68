use Rattle.ux_laws.proofs.RoomsCome.{rooms_come}
use Rattle.ux_laws.proofs.rooms_come.Goals as goal

pub returns : goal.returns
returns c = rooms_come
