use Rattle.ux_laws.proofs.Openings.{new_files_are_empty}
use Rattle.ux_laws.proofs.new_files_are_empty.Goals as goal

pub returns : goal.returns
returns c = new_files_are_empty
