use Rattle.ux_laws.proofs.OwnNames.{one_is_named}
use Rattle.ux_laws.proofs.one_socket_is_named.Goals as goal

pub returns : goal.returns
returns c = one_is_named
