use Rattle.std.proofs.Common.{◌≡◌, ◌≤◌, vec_len, vec_capacity}
use Rattle.ux_state.proofs.making.object_rooms.Given as goal

abbrev pub invariant-loop-n : goal.invariant-loop-n
invariant-loop-n g l = (vec_len l.rooms ≡ l._n) × (l.count ≤ vec_capacity l.rooms)
