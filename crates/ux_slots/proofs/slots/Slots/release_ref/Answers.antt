use Rattle.std.proofs.Common.{refl, sym, ap, arith}
use Rattle.ux_slots.specs.Kept.{value_in, count_in}
use Rattle.ux_slots.proofs.Bridges.{written}
use Rattle.ux_slots.proofs.Looking.{seen_same_but, counted_less}
use Rattle.ux_slots.proofs.Keeping.{count_is, none_past, key_found, slot_found, present, counted_kept, uncounted_kept, changed_puts}
use Rattle.ux_slots.proofs.slots.Slots.release_ref.Goals as goal

pub index-key-requires : goal.index-key-requires
index-key-requires g c = key_found _ _ _ _ c.self.invariant _
    (rw (← c.self.view_is, ← c.number-number.ensures, count_is _ _ _ _ c.self.invariant) at c.requires)

pub index_mut-slot-requires : goal.index_mut-slot-requires
index_mut-slot-requires g c = let found = slot_found _ _ _ _ c.self.invariant _ _ c.index-key.ensures in rw found.1

pub overflow_sub-slot : goal.overflow_sub-slot
overflow_sub-slot g c =
    let some = rw (← c.self.view_is, ← c.number-number.ensures, count_is _ _ _ _ c.self.invariant) at c.requires in
    omega (arith, some, ap count_in (present _ _ _ _ c.self.invariant _ _ _ c.index-key.ensures c.index_mut-slot.ensures.value))

pub invariant_of-self : goal.invariant_of-self
invariant_of-self g c =
    let was = c.index_mut-slot.ensures.value in
    uncounted_kept _ _ _ _ _ _ _ _ _ c.self.invariant c.index-key.ensures was (written c.self.inside.slots _ _ _ was)
    (rw (← c.self.view_is, ← c.number-number.ensures, count_is _ _ _ _ c.self.invariant) at c.requires)
    refl
    c.if-slot-eq0.true
    refl

pub invariant_of-self-else-slot-eq0 : goal.invariant_of-self-else-slot-eq0
invariant_of-self-else-slot-eq0 g c =
    let was = c.index_mut-slot.ensures.value in
    counted_kept _ _ _ _ _ _ _ _ _ c.self.invariant c.index-key.ensures was (written c.self.inside.slots _ _ _ was)
    (rw (← c.self.view_is, ← c.number-number.ensures, count_is _ _ _ _ c.self.invariant) at c.requires)
    refl
    c.if-slot-eq0.false

pub returns-then-slot-eq0-clause-counted : goal.returns-then-slot-eq0-clause-counted
returns-then-slot-eq0-clause-counted g c =
    let was = c.index_mut-slot.ensures.value in
    let here = present _ _ _ _ c.self.invariant _ _ _ c.index-key.ensures was in
    let some = rw (← c.self.view_is, ← c.number-number.ensures, count_is _ _ _ _ c.self.invariant, here) at c.requires in
    let puts = changed_puts _ _ _ _ _ _ _ _ _ c.self.invariant c.index-key.ensures was (written c.self.inside.slots _ _ _ was) in
    rw (← c.self.view_is, ← c.number-number.ensures) record {
      places = sym (seen_same_but value_in _ _ c.self.inside.next _ _ puts (sym (ap value_in here)));
      counts = counted_less _ _ c.self.inside.next (none_past _ _ _ c.self.invariant.young) (none_past _ _ _ c.self.invariant.young) _ _
          puts (omega (arith, some, ap count_in here));
    }

pub returns-else-slot-eq0-clause-counted : goal.returns-else-slot-eq0-clause-counted
returns-else-slot-eq0-clause-counted g c =
    let was = c.index_mut-slot.ensures.value in
    let here = present _ _ _ _ c.self.invariant _ _ _ c.index-key.ensures was in
    let some = rw (← c.self.view_is, ← c.number-number.ensures, count_is _ _ _ _ c.self.invariant, here) at c.requires in
    let puts = changed_puts _ _ _ _ _ _ _ _ _ c.self.invariant c.index-key.ensures was (written c.self.inside.slots _ _ _ was) in
    rw (← c.self.view_is, ← c.number-number.ensures) record {
      places = sym (seen_same_but value_in _ _ c.self.inside.next _ _ puts (sym (ap value_in here)));
      counts = counted_less _ _ c.self.inside.next (none_past _ _ _ c.self.invariant.young) (none_past _ _ _ c.self.invariant.young) _ _
          puts (omega (arith, some, ap count_in here));
    }
