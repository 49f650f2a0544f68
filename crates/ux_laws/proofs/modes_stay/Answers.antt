use Rattle.ux_laws.proofs.Writes.{modes_stay}
use Rattle.ux_laws.proofs.modes_stay.Goals as goal

pub returns : goal.returns
returns c = modes_stay
