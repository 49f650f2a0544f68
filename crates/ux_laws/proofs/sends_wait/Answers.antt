use Rattle.ux_laws.proofs.SendWaits.{sends_wait}
use Rattle.ux_laws.proofs.sends_wait.Goals as goal

pub returns : goal.returns
returns c = sends_wait
