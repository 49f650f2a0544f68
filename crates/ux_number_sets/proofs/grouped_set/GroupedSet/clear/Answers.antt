use Rattle.std.proofs.Common.{length}
use Rattle.ux_number_sets.proofs.GroupLaws.{groups_length, none_in_groups}
use Rattle.ux_number_sets.proofs.grouped_set.GroupedSet.clear.Goals as goal

pub returns : goal.returns
returns c = rw (c.clear.ensures.items, ← c.self.view_is, groups_length)
    (none_in_groups c.clear-2.new.self (length c.self.inside.full) c.clear-2.ensures.len)
