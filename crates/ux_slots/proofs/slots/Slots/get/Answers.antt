use Rattle.std.proofs.Common.{Some, None, sym, ap, ◌∙◌}
use Rattle.ux_slots.specs.Kept.{value_in, count_in}
use Rattle.ux_slots.proofs.Keeping.{place_is, count_is, absent, present}
use Rattle.ux_slots.proofs.slots.Slots.get.Goals as goal

pub returns-in_err-key-clause-value : goal.returns-in_err-key-clause-value
returns-in_err-key-clause-value g c =
    rw (c.from_residual.ensures, ← c.self.view_is, ← c.number-number.ensures)
    (sym (place_is _ _ _ _ c.self.invariant c.number-number.result
    ∙ ap value_in (absent _ _ _ _ c.self.invariant c.number-number.result (sym c.in_err-key.ensures.value))))

pub returns-in_err-key-clause-gone : goal.returns-in_err-key-clause-gone
returns-in_err-key-clause-gone g c =
    rw (c.from_residual.ensures, ← c.self.view_is, ← c.number-number.ensures)
    (count_is _ _ _ _ c.self.invariant c.number-number.result
    ∙ ap count_in (absent _ _ _ _ c.self.invariant c.number-number.result (sym c.in_err-key.ensures.value)))

pub returns-in_err-slot-clause-value : goal.returns-in_err-slot-clause-value
returns-in_err-slot-clause-value g c =
    rw (c.from_residual-in_err-slot.ensures, ← c.self.view_is, ← c.number-number.ensures)
    (sym (place_is _ _ _ _ c.self.invariant c.number-number.result
    ∙ ap value_in (present _ _ _ _ c.self.invariant c.number-number.result _ None (sym c.in_ok-key.ensures.value)
    (sym c.in_err-slot.ensures))))

pub returns-in_err-slot-clause-gone : goal.returns-in_err-slot-clause-gone
returns-in_err-slot-clause-gone g c =
    rw (c.from_residual-in_err-slot.ensures, ← c.self.view_is, ← c.number-number.ensures)
    (count_is _ _ _ _ c.self.invariant c.number-number.result
    ∙ ap count_in (present _ _ _ _ c.self.invariant c.number-number.result _ None (sym c.in_ok-key.ensures.value)
    (sym c.in_err-slot.ensures)))

pub returns-clause-value : goal.returns-clause-value
returns-clause-value g c =
    rw (← c.self.view_is, ← c.number-number.ensures)
    (sym (place_is _ _ _ _ c.self.invariant c.number-number.result
    ∙ ap value_in (present _ _ _ _ c.self.invariant c.number-number.result _ (Some c.in_ok-slot.slot.now) (sym c.in_ok-key.ensures.value)
    (sym c.in_ok-slot.ensures))))
