use Rattle.ux_laws.proofs.Offsets.{offsets_stay}
use Rattle.ux_laws.proofs.offsets_stay.Goals as goal

pub returns : goal.returns
returns c = offsets_stay
