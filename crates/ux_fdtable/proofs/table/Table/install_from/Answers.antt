use Rattle.std.proofs.Common.{rules}
use Rattle.ux_fdtable.proofs.table.Table.install_from.Goals as goal

pub returns-in_default-clause-full : goal.returns-in_default-clause-full
returns-in_default-clause-full c = search rules

pub returns-clause-lowest : goal.returns-clause-lowest
returns-clause-lowest c = search rules
