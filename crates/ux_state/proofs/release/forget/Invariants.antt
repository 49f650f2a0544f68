use Rattle.std.proofs.Common.{◌≡◌, ℕ, map, Option, None}
use Rattle.ux_model.specs.Description.{Description}
use Rattle.ux_model.proofs.Releasing.AnyOrder.{live_in}
use Rattle.ux_slots.specs.Held.{count_at}
use Rattle.ux_state.proofs.release.forget.Given as goal

-- there are as many places, and nothing counts
abbrev pub invariant-loop-gone : goal.invariant-loop-gone
invariant-loop-gone l = (map {B = Option Description} (λ _. None) l.slots.places ≡ map (λ _. None) l.fn.slots.places)
    × ((d : ℕ) → count_at l.slots d ≡ 0)

abbrev pub decreases-loop-gone : goal.decreases-loop-gone
decreases-loop-gone l = live_in l.slots.places
