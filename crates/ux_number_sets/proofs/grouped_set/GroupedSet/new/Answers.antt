use Rattle.std.proofs.Common.{arith}
use Rattle.ux_number_sets.proofs.GroupLaws.{none_in_groups, no_groups}
use Rattle.ux_number_sets.proofs.grouped_set.GroupedSet.new.Goals as goal

pub invariant_of-result : goal.invariant_of-result
invariant_of-result c = rw c.new.ensures.items
    (no_groups c.in_ok-new.field-0 (omega (arith, c.in_ok-new.ensures.len, c.requires)) c.in_ok-new.ensures.none)

pub returns : goal.returns
returns c = rw c.new.ensures.items (none_in_groups c.in_ok-new.field-0 c.args.groups c.in_ok-new.ensures.len)
