use Rattle.ux_laws.proofs.Writes.{modes_are_asked}
use Rattle.ux_laws.proofs.modes_are_asked_for.Goals as goal

pub returns : goal.returns
returns c = modes_are_asked
