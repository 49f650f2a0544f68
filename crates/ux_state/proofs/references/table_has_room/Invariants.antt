use Rattle.std.proofs.Common.{ℕ, ◌+◌, ◌<◌, ◌^◌, take, length}
use Rattle.ux_model.specs.References.{table_refs}
use Rattle.ux_slots.specs.Held.{count_at}
use Rattle.ux_state.proofs.references.table_has_room.Given as goal

-- those so far have room
abbrev pub invariant-loop-number : goal.invariant-loop-number
invariant-loop-number l = (k : ℕ) → 0 < table_refs k (take l.number l.table) → count_at l.slots k + length l.table < 2 ^ 64
