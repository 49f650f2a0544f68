use Rattle.std.proofs.Common.{rules}
use Rattle.ux_syntax.proofs.reading.Reader.add_header.Goals as goal

pub returns-in_ok-push-in-Object-clause-reads : goal.returns-in_ok-push-in-Object-clause-reads
returns-in_ok-push-in-Object-clause-reads c = search rules
