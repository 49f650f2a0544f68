use Rattle.ux_fdtable.proofs.FreePlaces.{finds_free}
use Rattle.ux_fdtable.proofs.table.Table.free_from.Goals as goal

pub returns-clause-found : goal.returns-clause-found
returns-clause-found c = rw (← c.self.view_is)
    (finds_free c.self.inside.places.items c.self.inside.limit c.args.from c.self.inside.in_use _ c.self.invariant c.first_free.ensures)
