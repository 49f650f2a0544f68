use Rattle.std.proofs.Common.{◌≡◌, ℕ, ◌+◌, ◌-◌, ◌≤◌, length, vec_len}
use Rattle.ux_audit.specs.Flags.{flag_at, AreSmall}
use Rattle.ux_audit.proofs.tables.reach.Given as goal

abbrev pub invariant-loop-alloc : goal.invariant-loop-alloc
invariant-loop-alloc l = record {
  same : (q n : ℕ) → flag_at l.tables.items q n ≡ flag_at l.initial.tables.items q n;
  small : AreSmall l.initial.tables.items → AreSmall l.tables.items;
  more : length l.initial.tables.items ≤ length l.tables.items;
}

abbrev pub decreases-loop-alloc : goal.decreases-loop-alloc
decreases-loop-alloc l = (l.pid.0 + 1) - vec_len l.tables
