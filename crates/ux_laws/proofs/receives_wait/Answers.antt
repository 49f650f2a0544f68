use Rattle.ux_laws.proofs.WaitEnds.{receives_wait}
use Rattle.ux_laws.proofs.receives_wait.Goals as goal

pub returns : goal.returns
returns c = receives_wait
