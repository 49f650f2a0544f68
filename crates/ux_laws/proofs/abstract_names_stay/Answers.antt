use Rattle.ux_laws.proofs.NamesLeft.{abstract_names_stay}
use Rattle.ux_laws.proofs.abstract_names_stay.Goals as goal

pub returns : goal.returns
returns c = abstract_names_stay
