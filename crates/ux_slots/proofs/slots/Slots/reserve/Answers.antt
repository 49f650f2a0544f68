use Rattle.std.proofs.Common.{arith}
use Rattle.std.proofs.lemmas.List.FromFn.{length-map-range_with_len}
use Rattle.ux_slots.proofs.Bridges.{numbers_left}
use Rattle.ux_slots.proofs.Keeping.{reordered_kept}
use Rattle.ux_slots.proofs.slots.Slots.reserve.Goals as goal

pub invariant_of-self : goal.invariant_of-self
invariant_of-self g c = rw c.reserve.ensures.rest_kept c.self.invariant

pub returns-in_err-reserve-clause-had_room : goal.returns-in_err-reserve-clause-had_room
returns-in_err-reserve-clause-had_room g c =
    rw (← c.self.view_is) (λ some fits. absurd (cc (c.in_err-reserve.ensures.succeeds (omega (arith, some, fits)))))

pub invariant_of-self-2 : goal.invariant_of-self-2
invariant_of-self-2 g c = rw c.reserve.ensures.rest_kept (reordered_kept _ _ _ _ _ c.self.invariant c.reserve-2.ensures.entries.2)

pub returns-then-additional-self-clause-numbers : goal.returns-then-additional-self-clause-numbers
returns-then-additional-self-clause-numbers g c =
    rw (← c.self.view_is) (numbers_left _ _ c.self.inside.next _ (length-map-range_with_len _ 0 c.self.inside.next) c.self.ranges.1.1.0.1)

pub returns-in_err-reserve-clause-numbers : goal.returns-in_err-reserve-clause-numbers
returns-in_err-reserve-clause-numbers g c =
    numbers_left _ _ c.self.inside.next _ (length-map-range_with_len _ 0 c.self.inside.next) c.self.ranges.1.1.0.1

pub returns-clause-numbers : goal.returns-clause-numbers
returns-clause-numbers g c = numbers_left _ _ c.self.inside.next _ (length-map-range_with_len _ 0 c.self.inside.next) c.self.ranges.1.1.0.1
