use Rattle.ux_laws.proofs.AcceptWaits.{accepts_wait}
use Rattle.ux_laws.proofs.accepts_wait.Goals as goal

pub returns : goal.returns
returns c = accepts_wait
