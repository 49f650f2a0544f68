use Rattle.ux_syntax.proofs.Echoed.{echoes_read}
use Rattle.ux_syntax.proofs.plain.echoes_are_read.Goals as goal

pub returns : goal.returns
returns c = echoes_read
