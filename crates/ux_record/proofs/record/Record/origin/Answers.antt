use Rattle.std.proofs.Common.{rules}
use Rattle.ux_record.proofs.record.Record.origin.Goals as goal

pub returns-then-is_empty : goal.returns-then-is_empty
returns-then-is_empty c = search rules

pub returns : goal.returns
returns c = search rules
