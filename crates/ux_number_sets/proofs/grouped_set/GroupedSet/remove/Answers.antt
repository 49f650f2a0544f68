use Rattle.std.proofs.Common.{length, arith}
use Rattle.ux_number_sets.proofs.GroupLaws.{groups_length, put_group_number, nothing_put}
use Rattle.ux_number_sets.proofs.grouped_set.GroupedSet.remove.Goals as goal

pub returns-then-number-len : goal.returns-then-number-len
returns-then-number-len c =
    let low = rw (← c.self.view_is, groups_length) at c.requires in
    rw (← c.self.view_is) (put_group_number c.self.inside.groups.items c.put_in_group.new.groups.items c.self.inside.full
    c.put_in_group.new.full c.args.number _ low c.put_in_group.ensures.put c.put_in_group.ensures.full.same_length)

pub returns-else-number-len : goal.returns-else-number-len
returns-else-number-len c =
    let low = rw (← c.self.view_is, groups_length) at c.requires in
    rw (← c.self.view_is) (nothing_put c.self.inside.groups.items (length c.self.inside.full) c.args.number low
    (omega (arith, c.if-number-len.false, c.len.ensures)))
