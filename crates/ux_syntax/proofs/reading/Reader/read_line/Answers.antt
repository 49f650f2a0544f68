use Rattle.std.proofs.Common.{rules}
use Rattle.ux_syntax.specs.Reading.{line_at}
use Rattle.ux_syntax.proofs.reading.Reader.read_line.Goals as goal

pub returns-in-Line-clause-reads : goal.returns-in-Line-clause-reads
unfolding line_at
returns-in-Line-clause-reads c = search rules
