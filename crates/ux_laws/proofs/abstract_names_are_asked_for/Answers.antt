use Rattle.ux_laws.proofs.NamesLeft.{abstract_names_are_asked}
use Rattle.ux_laws.proofs.abstract_names_are_asked_for.Goals as goal

pub returns : goal.returns
returns c = abstract_names_are_asked
