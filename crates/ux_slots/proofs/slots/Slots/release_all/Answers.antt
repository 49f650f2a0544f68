use Rattle.std.proofs.Common.{◌∙◌}
use Rattle.ux_slots.specs.Kept.{value_in, count_in}
use Rattle.ux_slots.proofs.Looking.{seen_same, seen_at}
use Rattle.ux_slots.proofs.Keeping.{none_past, released_kept, released_values, released_counts}
use Rattle.ux_slots.proofs.slots.Slots.release_all.Goals as goal

pub invariant_of-self : goal.invariant_of-self
invariant_of-self g c = released_kept _ _ _ _ _ _ c.self.invariant c.release_slots-head.ensures.released

pub returns-clause-places : goal.returns-clause-places
returns-clause-places g c = rw (← c.self.view_is)
    (seen_same value_in _ _ c.self.inside.next (released_values _ _ _ _ _ _ c.self.invariant c.release_slots-head.ensures.released))

pub returns-clause-counts : goal.returns-clause-counts
returns-clause-counts g c = λ d.
    seen_at count_in _ c.self.inside.next (none_past _ _ _ c.self.invariant.young) d
    ∙ released_counts _ _ _ _ _ _ c.self.invariant c.release_slots-head.ensures.released d

pub returns-clause-room : goal.returns-clause-room
returns-clause-room g c = rw (← c.self.view_is, c.release_slots-head.ensures.len, c.release_slots-head.ensures.capacity)
