use Rattle.ux_laws.proofs.ConnectWaits.{connect_waits_end}
use Rattle.ux_laws.proofs.what_ends_a_wait_to_connect.Goals as goal

pub returns : goal.returns
returns c = connect_waits_end
