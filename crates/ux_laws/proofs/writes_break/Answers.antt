use Rattle.ux_laws.proofs.Telling.{writes_break}
use Rattle.ux_laws.proofs.writes_break.Goals as goal

pub returns : goal.returns
returns c = writes_break
