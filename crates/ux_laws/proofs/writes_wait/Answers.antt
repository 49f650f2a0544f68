use Rattle.ux_laws.proofs.SendWaits.{writes_wait}
use Rattle.ux_laws.proofs.writes_wait.Goals as goal

pub returns : goal.returns
returns c = writes_wait
