use Rattle.ux_laws.proofs.FileWaits.{file_writes_wait_while}
use Rattle.ux_laws.proofs.file_writes_wait_exactly_for_room.Goals as goal

pub returns : goal.returns
returns c = file_writes_wait_while
