use Rattle.ux_laws.proofs.SendWaits.{send_waits_end}
use Rattle.ux_laws.proofs.what_ends_a_wait_to_send.Goals as goal

pub returns : goal.returns
returns c = send_waits_end
