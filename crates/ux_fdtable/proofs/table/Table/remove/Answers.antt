use Rattle.std.proofs.Common.{None, arith}
use Rattle.ux_fdtable.proofs.Places.{emptied_behind, set_padded}
use Rattle.ux_fdtable.proofs.table.Table.remove.Goals as goal

pub returns-then-number-len-clause-closed : goal.returns-then-number-len-clause-closed
returns-then-number-len-clause-closed c =
    rw (← c.self.view_is) (emptied_behind c.self.inside.places.items c.self.inside.limit c.args.fd.0 (omega arith))

pub returns-clause-closed : goal.returns-clause-closed
returns-clause-closed c = rw (← c.self.view_is) (set_padded c.self.inside.places.items c.self.inside.limit c.args.fd.0 None (omega arith))
