use Rattle.ux_syntax.proofs.Staying.{plain_stays}
use Rattle.ux_syntax.proofs.plain.plain_lines_stay.Goals as goal

pub returns : goal.returns
returns c = plain_stays
