use Rattle.ux_laws.proofs.Telling.{receives_tell_the_end}
use Rattle.ux_laws.proofs.receives_tell_the_end.Goals as goal

pub returns : goal.returns
returns c = receives_tell_the_end
