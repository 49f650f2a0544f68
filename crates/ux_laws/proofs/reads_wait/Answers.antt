use Rattle.ux_laws.proofs.WaitEnds.{reads_wait}
use Rattle.ux_laws.proofs.reads_wait.Goals as goal

pub returns : goal.returns
returns c = reads_wait
