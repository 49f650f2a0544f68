use Rattle.ux_laws.proofs.Spent.{rights_come_once}
use Rattle.ux_laws.proofs.rights_come_once.Goals as goal

pub returns : goal.returns
returns c = rights_come_once
