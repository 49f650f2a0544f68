use Rattle.std.proofs.Common.{◌≡◌, ℕ, ◌+◌, ◌-◌, ◌≤◌, ◌^◌, length, vec_len}
use Rattle.ux_model.specs.Places.{place}
use Rattle.ux_audit.proofs.flags.reach.Given as goal

abbrev pub invariant-loop-row : goal.invariant-loop-row
invariant-loop-row l = record {
  same : (k : ℕ) → place l.row.items k ≡ place l.initial.row.items k;
  small : length l.initial.row.items ≤ 2 ^ 32 → length l.row.items ≤ 2 ^ 32;
}

abbrev pub decreases-loop-row : goal.decreases-loop-row
decreases-loop-row l = (l.n + 1) - vec_len l.row
