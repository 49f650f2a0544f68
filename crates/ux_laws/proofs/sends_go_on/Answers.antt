use Rattle.ux_laws.proofs.GoingOn.{sends_go_on}
use Rattle.ux_laws.proofs.sends_go_on.Goals as goal

pub returns : goal.returns
returns c = sends_go_on
