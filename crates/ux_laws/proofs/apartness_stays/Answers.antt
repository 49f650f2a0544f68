use Rattle.ux_laws.proofs.Aside.Staying.{apartness_stays}
use Rattle.ux_laws.proofs.apartness_stays.Goals as goal

pub returns : goal.returns
returns c = apartness_stays
