use Rattle.ux_laws.proofs.WaitEnds.{waits_end}
use Rattle.ux_laws.proofs.what_ends_a_wait_to_receive.Goals as goal

pub returns : goal.returns
returns c = waits_end
