use Rattle.ux_laws.proofs.NamesLeft.{abstract_names_are_bound}
use Rattle.ux_laws.proofs.abstract_names_are_bound.Goals as goal

pub returns : goal.returns
returns c = abstract_names_are_bound
