use Rattle.std.proofs.Common.{◌+◌, refl, sym, ap, ◌∙◌, arith}
use Rattle.ux_slots.specs.Kept.{value_in, count_in}
use Rattle.ux_slots.proofs.Bridges.{written}
use Rattle.ux_slots.proofs.Looking.{seen_same_but, counted_more}
use Rattle.ux_slots.proofs.Keeping.{count_is, none_past, key_found, slot_found, present, counted_kept, changed_puts}
use Rattle.ux_slots.proofs.slots.Slots.retain_ref.Goals as goal

pub index-key-requires : goal.index-key-requires
index-key-requires g c = key_found _ _ _ _ c.self.invariant _
    (rw (← c.self.view_is, ← c.number-number.ensures, count_is _ _ _ _ c.self.invariant) at c.requires)

pub index_mut-slot-requires : goal.index_mut-slot-requires
index_mut-slot-requires g c = let found = slot_found _ _ _ _ c.self.invariant _ _ c.index-key.ensures in rw found.1

pub invariant_of-self : goal.invariant_of-self
invariant_of-self g c =
    let was = c.index_mut-slot.ensures.value in
    counted_kept _ _ _ _ _ _ _ _ _ c.self.invariant c.index-key.ensures was (written c.self.inside.slots _ _ _ was)
    (rw (← c.self.view_is, ← c.number-number.ensures, count_is _ _ _ _ c.self.invariant) at c.requires)
    refl
    (omega (arith, c.if-slot.true))

pub returns-then-slot-clause-full : goal.returns-then-slot-clause-full
returns-then-slot-clause-full g c =
    let is = count_is _ _ _ _ c.self.invariant c.number-number.result
    ∙ ap count_in (present _ _ _ _ c.self.invariant _ _ _ c.index-key.ensures c.index_mut-slot.ensures.value) in
    rw (← c.self.view_is, ← c.number-number.ensures) (λ _. is ∙ c.if-slot.true, λ _. refl)

pub invariant_of-self-2 : goal.invariant_of-self-2
invariant_of-self-2 g c =
    let was = c.index_mut-slot.ensures.value in
    counted_kept _ _ _ _ _ _ _ _ _ c.self.invariant c.index-key.ensures was (written c.self.inside.slots _ _ _ was)
    (rw (← c.self.view_is, ← c.number-number.ensures, count_is _ _ _ _ c.self.invariant) at c.requires)
    refl
    (omega arith)

pub returns-clause-ok : goal.returns-clause-ok
returns-clause-ok g c =
    let was = c.index_mut-slot.ensures.value in
    let here = present _ _ _ _ c.self.invariant _ _ _ c.index-key.ensures was in
    let puts = changed_puts _ _ _ _ _ _ _ _ _ c.self.invariant c.index-key.ensures was (written c.self.inside.slots _ _ _ was) in
    rw (← c.self.view_is, ← c.number-number.ensures) record {
      places = seen_same_but value_in _ _ c.self.inside.next _ _ puts (sym (ap value_in here));
      counts = counted_more _ _ c.self.inside.next c.self.inside.next (none_past _ _ _ c.self.invariant.young)
          (none_past _ _ _ c.self.invariant.young) _ _ puts (sym (ap (λ o. count_in o + 1) here));
    }

pub returns-clause-full : goal.returns-clause-full
returns-clause-full g c =
    let is = count_is _ _ _ _ c.self.invariant c.number-number.result
    ∙ ap count_in (present _ _ _ _ c.self.invariant _ _ _ c.index-key.ensures c.index_mut-slot.ensures.value) in
    rw (← c.self.view_is, ← c.number-number.ensures) (λ e. absurd (cc e), λ full. absurd (c.if-slot.false (sym is ∙ full)))
