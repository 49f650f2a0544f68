use Rattle.std.proofs.Common.{rules}
use Rattle.ux_fdtable.proofs.table.Table.two_lowest_free.Goals as goal

pub returns-in_err-second : goal.returns-in_err-second
returns-in_err-second c = search rules

pub returns : goal.returns
returns c = search rules
