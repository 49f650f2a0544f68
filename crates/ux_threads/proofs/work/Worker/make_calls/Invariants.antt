use Rattle.std.proofs.Common.{◌≤◌, length}
use Rattle.ux_threads.proofs.work.Worker.make_calls.Given as goal

-- no line is left that wasn't given
abbrev pub invariant-loop-line : goal.invariant-loop-line
invariant-loop-line g l = length l.left ≤ length l.lines

abbrev pub decreases-loop-line : goal.decreases-loop-line
decreases-loop-line g l = length l.left
