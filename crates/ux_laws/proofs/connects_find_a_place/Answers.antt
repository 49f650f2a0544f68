use Rattle.ux_laws.proofs.GoingOn.{connects_find_a_place}
use Rattle.ux_laws.proofs.connects_find_a_place.Goals as goal

pub returns : goal.returns
returns c = connects_find_a_place
