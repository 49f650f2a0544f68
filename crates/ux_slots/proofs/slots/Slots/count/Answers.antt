use Rattle.std.proofs.Common.{None, Some, sym, ap, ◌∙◌}
use Rattle.ux_slots.specs.Kept.{count_in}
use Rattle.ux_slots.proofs.Keeping.{count_is, absent, present}
use Rattle.ux_slots.proofs.slots.Slots.count.Goals as goal

pub returns-in_default : goal.returns-in_default
returns-in_default g c =
    rw (← c.self.view_is, ← c.number-number.ensures)
    (sym (count_is _ _ _ _ c.self.invariant c.number-number.result
    ∙ ap count_in (absent _ _ _ _ c.self.invariant c.number-number.result (sym c.in_default.ensures.value))))

pub returns-in-Some-get : goal.returns-in-Some-get
returns-in-Some-get g c =
    rw (← c.self.view_is, ← c.number-number.ensures)
    (sym (count_is _ _ _ _ c.self.invariant c.number-number.result
    ∙ ap count_in (present _ _ _ _ c.self.invariant c.number-number.result _ (Some c.in-Some-get.slot.now) (sym c.in-Some.ensures.value)
    (sym c.in-Some-get.ensures))))

pub returns-in-None : goal.returns-in-None
returns-in-None g c =
    rw (← c.self.view_is, ← c.number-number.ensures)
    (sym (count_is _ _ _ _ c.self.invariant c.number-number.result
    ∙ ap count_in (present _ _ _ _ c.self.invariant c.number-number.result _ None (sym c.in-Some.ensures.value) (sym c.in-None.ensures))))
