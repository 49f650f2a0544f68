use Rattle.ux_laws.proofs.AcceptWaits.{accept_waits_end}
use Rattle.ux_laws.proofs.what_ends_a_wait_to_accept.Goals as goal

pub returns : goal.returns
returns c = accept_waits_end
