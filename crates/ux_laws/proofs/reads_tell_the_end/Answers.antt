use Rattle.ux_laws.proofs.Telling.{reads_tell_the_end}
use Rattle.ux_laws.proofs.reads_tell_the_end.Goals as goal

pub returns : goal.returns
returns c = reads_tell_the_end
