use Rattle.ux_laws.proofs.Sends.{sends_break}
use Rattle.ux_laws.proofs.sends_break.Goals as goal

pub returns : goal.returns
returns c = sends_break
