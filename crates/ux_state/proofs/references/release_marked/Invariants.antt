use Rattle.std.proofs.Common.{take, map}
use Rattle.ux_model.specs.References.{table_refs}
use Rattle.ux_slots.specs.Held.{HasMore}
use Rattle.ux_state.specs.EntryCounts.{closed_on_exec}
use Rattle.ux_state.proofs.references.release_marked.Given as goal

-- those so far count less
abbrev pub invariant-loop-number : goal.invariant-loop-number
invariant-loop-number l = HasMore (λ k. table_refs k (take l.number (map closed_on_exec l.table))) l.slots l.fn.slots
