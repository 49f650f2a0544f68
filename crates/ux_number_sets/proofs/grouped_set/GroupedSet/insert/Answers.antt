use Rattle.std.proofs.Common.{length, arith}
use Rattle.std.proofs.lemmas.Result.{err_from_is_err_and}
use Rattle.ux_number_sets.proofs.GroupLaws.{groups_length, few_groups, more_are_groups, same_set, put_group_number, put_are_groups}
use Rattle.ux_number_sets.proofs.grouped_set.GroupedSet.insert.Goals as goal

pub invariant_of-self : goal.invariant_of-self
invariant_of-self c =
    let low = rw (← c.self.view_is, groups_length) at c.requires in
    more_are_groups c.self.inside.groups.items c.add_groups.new.groups.items c.self.inside.full c.self.invariant c.add_groups.ensures.added
    (few_groups _ _ _ c.args.number c.self.invariant.few c.add_groups.ensures.few low)

pub returns-in_err-add_groups-clause-err : goal.returns-in_err-add_groups-clause-err
returns-in_err-add_groups-clause-err c =
    let p = err_from_is_err_and c.from_residual.result c.from_residual.ensures.1 in
    rw (p.1, ← c.self.view_is) (same_set c.self.inside.groups.items c.add_groups.new.groups.items (length c.self.inside.full)
    c.add_groups.ensures.added)

pub put_in_group-requires-clause-few : goal.put_in_group-requires-clause-few
put_in_group-requires-clause-few c =
    let low = rw (← c.self.view_is, groups_length) at c.requires in
    few_groups _ _ _ c.args.number c.self.invariant.few c.add_groups.ensures.few low

pub invariant_of-self-2 : goal.invariant_of-self-2
invariant_of-self-2 c =
    let low = rw (← c.self.view_is, groups_length) at c.requires in
    let kept = more_are_groups c.self.inside.groups.items c.add_groups.new.groups.items c.self.inside.full c.self.invariant
    c.add_groups.ensures.added (few_groups _ _ _ c.args.number c.self.invariant.few c.add_groups.ensures.few low) in
    put_are_groups c.add_groups.new.groups.items c.put_in_group.new.groups.items c.self.inside.full c.put_in_group.new.full _ _ _ kept
    (omega (arith, c.in_ok-add_groups.ensures.ok)) c.put_in_group.ensures.put c.put_in_group.ensures.full

pub returns-clause-ok : goal.returns-clause-ok
returns-clause-ok c =
    let low = rw (← c.self.view_is, groups_length) at c.requires in
    rw (
      ← c.self.view_is,
      ← same_set c.self.inside.groups.items c.add_groups.new.groups.items (length c.self.inside.full)
          c.add_groups.ensures.added,
    )
    (put_group_number c.add_groups.new.groups.items c.put_in_group.new.groups.items c.self.inside.full c.put_in_group.new.full c.args.number
    _ low c.put_in_group.ensures.put c.put_in_group.ensures.full.same_length)
