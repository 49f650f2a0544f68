use Rattle.ux_laws.proofs.NewNames.{new_sockets_have_no_name}
use Rattle.ux_laws.proofs.new_sockets_have_no_name.Goals as goal

pub returns : goal.returns
returns c = new_sockets_have_no_name
