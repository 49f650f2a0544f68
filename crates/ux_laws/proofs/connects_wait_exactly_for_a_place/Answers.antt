use Rattle.ux_laws.proofs.Progress.{connects_wait_while}
use Rattle.ux_laws.proofs.connects_wait_exactly_for_a_place.Goals as goal

pub returns : goal.returns
returns c = connects_wait_while
