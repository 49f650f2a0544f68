use Rattle.std.proofs.Common.{rules}
use Rattle.ux_fdtable.proofs.table.Table.dup_at.Goals as goal

pub put-requires : goal.put-requires
put-requires c = search rules

pub returns-clause-bad_number : goal.returns-clause-bad_number
returns-clause-bad_number c = search rules

pub returns-in_err-put-clause-bad_number : goal.returns-in_err-put-clause-bad_number
returns-in_err-put-clause-bad_number c = search rules
