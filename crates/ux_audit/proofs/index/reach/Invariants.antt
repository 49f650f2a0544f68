use Rattle.std.proofs.Common.{◌≡◌, ℕ, ◌+◌, ◌-◌, vec_len}
use Rattle.ux_audit.specs.Givers.{places_at}
use Rattle.ux_audit.proofs.index.reach.Given as goal

abbrev pub invariant-loop-alloc : goal.invariant-loop-alloc
invariant-loop-alloc l = (p n : ℕ) → places_at l.rows.items p n ≡ places_at l.initial.rows.items p n

abbrev pub decreases-loop-alloc : goal.decreases-loop-alloc
decreases-loop-alloc l = (l.pid.0 + 1) - vec_len l.rows
