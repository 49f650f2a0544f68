use Rattle.std.proofs.Common.{◌≡◌, ℕ, ◌<◌, ◌≤◌}
use Rattle.ux_model.specs.Places.{place}
use Rattle.ux_audit.specs.Flags.{flag_on_exec}
use Rattle.ux_audit.proofs.flags.take_flagged.Given as goal

abbrev pub invariant-loop-flag : goal.invariant-loop-flag
invariant-loop-flag l = record {
  done : (k : ℕ) → k < l.flag-index → place l.row k ≡ flag_on_exec (place l.fn.row k);
  ahead : (k : ℕ) → l.flag-index ≤ k → place l.row k ≡ place l.fn.row k;
}
