use Rattle.ux_laws.proofs.Offsets.{appends_stay}
use Rattle.ux_laws.proofs.appends_stay.Goals as goal

pub returns : goal.returns
returns c = appends_stay
