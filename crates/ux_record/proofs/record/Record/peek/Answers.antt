use Rattle.std.proofs.Common.{rules}
use Rattle.ux_record.proofs.record.Record.peek.Goals as goal

pub returns-clause-from : goal.returns-clause-from
returns-clause-from c = search rules
