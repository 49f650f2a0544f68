use Rattle.std.proofs.Common.{ap, length, ◌∙◌, sym}
use Rattle.ux_fdtable.proofs.FreePlaces.{length_of_table}
use Rattle.ux_fdtable.proofs.Places.{cleared}
use Rattle.ux_fdtable.proofs.table.Table.clear.Goals as goal

pub returns : goal.returns
returns c = cleared c.clear.new.self.items c.args.self.now c.self.inside.limit c.clear.ensures.items
    (ap length (sym c.self.view_is) ∙ length_of_table c.self.inside.places.items c.self.inside.limit c.self.inside.in_use c.self.invariant)
