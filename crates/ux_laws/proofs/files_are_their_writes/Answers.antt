use Rattle.ux_laws.proofs.Writes.{files_are_their_writes}
use Rattle.ux_laws.proofs.files_are_their_writes.Goals as goal

pub returns : goal.returns
returns c = files_are_their_writes
