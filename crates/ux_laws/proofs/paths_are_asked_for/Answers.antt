use Rattle.ux_laws.proofs.Bound.{paths_are_asked}
use Rattle.ux_laws.proofs.paths_are_asked_for.Goals as goal

pub returns : goal.returns
returns c = paths_are_asked
