use Rattle.std.proofs.Common.{arith}
use Rattle.ux_number_sets.proofs.SetLaws.{set_length, put_number}
use Rattle.ux_number_sets.proofs.number_set.NumberSet.put.Goals as goal

pub put-requires : goal.put-requires
put-requires c = omega (arith, c.self.invariant, rw (← c.self.view_is, set_length) at c.requires)

pub returns : goal.returns
returns c = rw (← c.self.view_is) (put_number c.self.inside.words _ c.self.inside.capacity c.args.number c.args.is_in
    (rw (← c.self.view_is, set_length) at c.requires) c.put.ensures)
