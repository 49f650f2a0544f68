use Rattle.std.proofs.Common.{take}
use Rattle.ux_model.specs.References.{table_refs}
use Rattle.ux_slots.specs.Held.{HasMore}
use Rattle.ux_state.proofs.references.retain_table.Given as goal

-- those so far count more
abbrev pub invariant-loop-number : goal.invariant-loop-number
invariant-loop-number l = HasMore (λ k. table_refs k (take l.number l.table)) l.fn.slots l.slots
