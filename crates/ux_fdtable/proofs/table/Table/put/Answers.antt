use Rattle.std.proofs.Common.{Some, ◌<◌, ap, arith, length}
use Rattle.ux_fdtable.proofs.FreePlaces.{length_of_table}
use Rattle.ux_fdtable.proofs.Places.{table_with, filled_up_to}
use Rattle.ux_fdtable.proofs.table.Table.put.Goals as goal

pub invariant_of-self-2 : goal.invariant_of-self-2
invariant_of-self-2 c =
    let small : c.args.number < c.self.inside.limit =
    omega (
      arith,
      ap length c.self.view_is,
      length_of_table c.self.inside.places.items c.self.inside.limit c.self.inside.in_use
          c.self.invariant,
      c.requires,
    ) in
    rw c.in_ok-reach.ensures.ok (table_with c.self.inside.places.items c.self.inside.limit c.args.number c.self.inside.in_use c.put.new.self
    c.args.descriptor small c.self.invariant c.put.ensures)

pub returns-clause-ok : goal.returns-clause-ok
returns-clause-ok c =
    let small : c.args.number < c.self.inside.limit =
    omega (
      arith,
      ap length c.self.view_is,
      length_of_table c.self.inside.places.items c.self.inside.limit c.self.inside.in_use
          c.self.invariant,
      c.requires,
    ) in
    rw (c.in_ok-reach.ensures.ok, ← c.self.view_is)
    (filled_up_to c.self.inside.places.items c.self.inside.limit c.args.number (Some c.args.descriptor) small c.self.invariant.within)
