use Rattle.ux_laws.proofs.Connections.{connections_stay}
use Rattle.ux_laws.proofs.connections_stay.Goals as goal

pub returns : goal.returns
returns c = connections_stay
