use Rattle.ux_laws.proofs.Ended.{sends_find_nobody}
use Rattle.ux_laws.proofs.sends_find_nobody.Goals as goal

pub returns : goal.returns
returns c = sends_find_nobody
