use Rattle.std.proofs.Common.{length, arith}
use Rattle.ux_number_sets.proofs.GroupLaws.{groups_length}
use Rattle.ux_number_sets.proofs.grouped_set.GroupedSet.capacity.Goals as goal

pub returns : goal.returns
returns c = rw (← c.self.view_is) (omega (arith, c.capacity.ensures, groups_length c.self.inside.groups.items (length c.self.inside.full)))
