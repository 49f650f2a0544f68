use Rattle.ux_laws.proofs.Wakes.{ends_come}
use Rattle.ux_laws.proofs.ends_come.Goals as goal

pub returns : goal.returns
returns c = ends_come
