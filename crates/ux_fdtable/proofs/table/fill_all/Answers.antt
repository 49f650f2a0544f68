use Rattle.std.proofs.Common.{rules}
use Rattle.ux_fdtable.proofs.table.fill_all.Goals as goal

pub loop-fd-preserved : goal.loop-fd-preserved
loop-fd-preserved c = search rules
