use Rattle.ux_laws.proofs.Bound.{binds_name}
use Rattle.ux_laws.proofs.binds_name_their_socket.Goals as goal

pub returns : goal.returns
returns c = binds_name
