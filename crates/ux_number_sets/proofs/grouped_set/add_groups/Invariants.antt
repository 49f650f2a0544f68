use Rattle.std.proofs.Common.{◌≤◌, ◌-◌, max, length}
use Rattle.ux_number_sets.specs.Groups.{AddsGroups}
use Rattle.ux_number_sets.proofs.grouped_set.add_groups.Given as goal

abbrev pub invariant-loop-groups : goal.invariant-loop-groups
invariant-loop-groups l = (length l.groups.items ≤ max (length l.initial.groups.items) l.count)
    × AddsGroups l.initial.groups.items l.groups.items

abbrev pub decreases-loop-groups : goal.decreases-loop-groups
decreases-loop-groups l = l.count - length l.groups.items
