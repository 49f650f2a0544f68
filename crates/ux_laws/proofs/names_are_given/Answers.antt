use Rattle.ux_laws.proofs.OwnNames.{names_are_given}
use Rattle.ux_laws.proofs.names_are_given.Goals as goal

pub returns : goal.returns
returns c = names_are_given
