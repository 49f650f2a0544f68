use Rattle.std.proofs.Common.{◌≡◌, ◌<◌, ℕ, Some, None, slice_index_or}
use Rattle.ux_command.proofs.point.behind.Given as goal

-- the line makes none of the calls so far
abbrev pub invariant-loop-index : goal.invariant-loop-index
invariant-loop-index l = (i : ℕ) → i < l.index → ¬ (slice_index_or l.lines i None ≡ Some l.line)
