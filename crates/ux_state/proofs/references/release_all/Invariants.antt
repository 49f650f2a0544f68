use Rattle.std.proofs.Common.{take}
use Rattle.ux_model.specs.References.{times}
use Rattle.ux_slots.specs.Held.{HasMore}
use Rattle.ux_state.proofs.references.release_all.Given as goal

-- those so far count less
abbrev pub invariant-loop-reference : goal.invariant-loop-reference
invariant-loop-reference l = HasMore (λ k. times k (take l.reference-index l.references)) l.slots l.fn.slots
