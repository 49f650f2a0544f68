use Rattle.std.proofs.Common.{◌∙◌, arith}
use Rattle.std.proofs.lemmas.List.{get_or_past}
use Rattle.ux_slots.proofs.ReleasingAll.{released_more, all_released}
use Rattle.ux_slots.proofs.slots.release_slots.Goals as goal

pub loop-key-preserved : goal.loop-key-preserved
loop-key-preserved g c = (
  released_more _ _ _ _ _ _ c.loop-key.invariant.0 c.release_slot-head.ensures.slot c.release_slot-head.ensures.head,
  c.release_slot-head.ensures.keys ∙ c.loop-key.invariant.1,
  c.release_slot-head.ensures.len ∙ c.loop-key.invariant.2,
  c.release_slot-head.ensures.capacity ∙ c.loop-key.invariant.3,
)

pub returns-clause-released : goal.returns-clause-released
returns-clause-released g c = all_released _ _ _ _ c.loop-key.invariant.0
    (λ q high. get_or_past _ q _ (omega (arith, high, c.loop-key.invariant.1, c.capacity-key-end.ensures.slots, c.loop-key-test.false)))
