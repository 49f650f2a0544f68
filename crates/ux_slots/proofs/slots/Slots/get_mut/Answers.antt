use Rattle.std.proofs.Common.{ℕ, ◌-◌, ◌^◌, min, Some, None, refl, sym, ap, ◌∙◌}
use Rattle.std.specs.HashMap.{spare}
use Rattle.ux_slots.specs.Kept.{value_in, count_in}
use Rattle.ux_slots.proofs.Bridges.{written, as_many, same_loan}
use Rattle.ux_slots.proofs.Looking.{seen_put, seen_same_but}
use Rattle.ux_slots.proofs.Releasing.{released_same}
use Rattle.ux_slots.proofs.Keeping.{place_is, absent, present, changed_kept, changed_puts}
use Rattle.ux_slots.proofs.slots.Slots.get_mut.Goals as goal

pub returns-in_err-key : goal.returns-in_err-key
returns-in_err-key g c =
    rw (c.from_residual.ensures, ← c.self.view_is, ← c.number-number.ensures) (
      refl,
      record {
        writes_back = tt;
        value = sym (place_is _ _ _ _ c.self.invariant c.number-number.result
            ∙ ap value_in (absent _ _ _ _ c.self.invariant c.number-number.result (sym c.in_err-key.ensures.value)));
      },
    )

pub returns-in_err-slot : goal.returns-in_err-slot
returns-in_err-slot g c =
    rw (c.from_residual-in_err-slot.ensures, ← c.self.view_is, ← c.number-number.ensures) (
      refl,
      record {
        writes_back = tt;
        value = sym (place_is _ _ _ _ c.self.invariant c.number-number.result
            ∙ ap value_in (present _ _ _ _ c.self.invariant c.number-number.result _ None (sym c.in_ok-key.ensures.value)
            (sym c.in_err-slot.ensures.value)));
      },
    )

pub invariant_of-self-lent : goal.invariant_of-self-lent
invariant_of-self-lent g c = λ w.
    let was = sym c.in_ok-slot.ensures.value in
    let put = written c.self.inside.slots c.in_ok-key.field-0.now c.in_ok-slot.slot.now _ was in
    changed_kept _ _ _ _ _ _ _ _ _ c.self.invariant (sym c.in_ok-key.ensures.value) was put _ refl
    (released_same _ _ _ _ _ _ c.self.invariant.released was put refl refl)

pub returns : goal.returns
returns g c =
    let leads = sym c.in_ok-key.ensures.value in
    let was = sym c.in_ok-slot.ensures.value in
    let puts = λ (w : g.row.T.Denot).
    changed_puts _ _ _ _ _ _ _ _ _ c.self.invariant leads was
    (written c.self.inside.slots c.in_ok-key.field-0.now c.in_ok-slot.slot.now
    (record { number = c.in_ok-slot.slot.now.number; count = c.in_ok-slot.slot.now.count; next = c.in_ok-slot.slot.now.next; value = w })
    was) in
    let places = λ (w : g.row.T.Denot). seen_put value_in _ _ c.self.inside.next _ _ (puts w) in
    let counts = λ (w : g.row.T.Denot). seen_same_but count_in _ _ c.self.inside.next _ _ (puts w)
    (sym (ap count_in (present _ _ _ _ c.self.invariant _ _ _ leads was))) in
    let room = λ (w : g.row.T.Denot).
    ap (λ (n : ℕ). min (c.self.inside.slots.capacity - n) (min (spare c.self.inside.index) (2 ^ 128 - 1 - c.self.inside.next)))
    (as_many c.self.inside.slots c.in_ok-key.field-0.now c.in_ok-slot.slot.now
    (record { number = c.in_ok-slot.slot.now.number; count = c.in_ok-slot.slot.now.count; next = c.in_ok-slot.slot.now.next; value = w })
    was) in
    rw (← c.self.view_is, ← c.number-number.ensures) (
      same_loan _ _ _ (λ w. λ i. record { places = places w i; counts = counts w i; room = room w i }),
      record {
        writes_back = tt;
        value = sym (place_is _ _ _ _ c.self.invariant c.number-number.result
            ∙ ap value_in (present _ _ _ _ c.self.invariant c.number-number.result _ (Some c.in_ok-slot.slot.now) leads was));
      },
    )
