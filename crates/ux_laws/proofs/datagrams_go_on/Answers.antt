use Rattle.ux_laws.proofs.GoingOn.{datagrams_go_on}
use Rattle.ux_laws.proofs.datagrams_go_on.Goals as goal

pub returns : goal.returns
returns c = datagrams_go_on
