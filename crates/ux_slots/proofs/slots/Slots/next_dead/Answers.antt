use Rattle.std.proofs.Common.{refl, sym, ap, ◌∙◌}
use Rattle.ux_slots.specs.Kept.{value_in, count_in}
use Rattle.ux_slots.proofs.Bridges.{from_map, from_slab}
use Rattle.ux_slots.proofs.Looking.{seen_put, seen_same_but}
use Rattle.ux_slots.proofs.Releasing.{head_released, released_pop}
use Rattle.ux_slots.proofs.Keeping.{place_is, count_is, none_dead, head_dead, some_dead, taken_kept, taken_puts}
use Rattle.ux_slots.proofs.slots.Slots.next_dead.Goals as goal

pub returns-in_err-key-clause-none : goal.returns-in_err-key-clause-none
returns-in_err-key-clause-none g c = rw (c.from_residual.ensures, ← c.self.view_is)
    (λ _. none_dead _ _ _ _ c.self.invariant c.in_err-key.was, λ _. refl)

pub remove-slot-requires : goal.remove-slot-requires
remove-slot-requires g c = let first = head_released _ _ _ c.self.invariant.released c.in_ok-key.was in rw first.1.0

pub invariant_of-self : goal.invariant_of-self
invariant_of-self g c =
    let was = c.remove-slot.ensures.value in
    let vacated = from_slab _ _ _ _ c.remove-slot.ensures.updates in
    let forgotten = from_map c.self.inside.index c.remove-key.new.self _ _ c.remove-key.ensures.updates in
    taken_kept _ _ _ _ _ _ _ _ c.self.invariant was vacated forgotten _
    (released_pop _ _ _ _ _ c.self.invariant.released c.in_ok-key.was was vacated)

pub returns-clause-dead : goal.returns-clause-dead
returns-clause-dead g c =
    let dead = head_dead _ _ _ _ c.self.invariant _ _ c.in_ok-key.was c.remove-slot.ensures.value in
    rw (← c.self.view_is, c.new.ensures) (place_is _ _ _ _ c.self.invariant _ ∙ ap value_in dead.0)

pub returns-clause-uncounted : goal.returns-clause-uncounted
returns-clause-uncounted g c =
    let dead = head_dead _ _ _ _ c.self.invariant _ _ c.in_ok-key.was c.remove-slot.ensures.value in
    rw (← c.self.view_is, c.new.ensures) (count_is _ _ _ _ c.self.invariant _ ∙ ap count_in dead.0 ∙ dead.1)

pub returns-clause-taken : goal.returns-clause-taken
returns-clause-taken g c =
    let vacated = from_slab _ _ _ _ c.remove-slot.ensures.updates in
    let forgotten = from_map c.self.inside.index c.remove-key.new.self _ _ c.remove-key.ensures.updates in
    rw (← c.self.view_is, c.new.ensures) (seen_put value_in _ _ c.self.inside.next _ _
    (taken_puts _ _ _ _ _ _ _ _ c.self.invariant c.remove-slot.ensures.value vacated forgotten))

pub returns-clause-counts : goal.returns-clause-counts
returns-clause-counts g c =
    let vacated = from_slab _ _ _ _ c.remove-slot.ensures.updates in
    let forgotten = from_map c.self.inside.index c.remove-key.new.self _ _ c.remove-key.ensures.updates in
    let dead = head_dead _ _ _ _ c.self.invariant _ _ c.in_ok-key.was c.remove-slot.ensures.value in
    rw (← c.self.view_is) (seen_same_but count_in _ _ c.self.inside.next _ _
    (taken_puts _ _ _ _ _ _ _ _ c.self.invariant c.remove-slot.ensures.value vacated forgotten) (sym (ap count_in dead.0 ∙ dead.1)))

pub returns-clause-none : goal.returns-clause-none
returns-clause-none g c =
    rw (← c.self.view_is) (
      λ e. absurd (cc e),
      λ none. absurd (some_dead _ _ _ _ c.self.invariant _ _ c.in_ok-key.was c.remove-slot.ensures.value none),
    )
