use Rattle.ux_laws.proofs.ConnectWaits.{connects_wait}
use Rattle.ux_laws.proofs.connects_wait.Goals as goal

pub returns : goal.returns
returns c = connects_wait
