use Rattle.ux_laws.proofs.Aside.Histories.{apart_means_apart}
use Rattle.ux_laws.proofs.apart_means_apart.Goals as goal

pub returns : goal.returns
returns c = apart_means_apart
