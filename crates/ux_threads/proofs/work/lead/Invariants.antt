use Rattle.std.proofs.Common.{length}
use Rattle.ux_threads.proofs.work.lead.Given as goal

abbrev pub decreases-loop-child : goal.decreases-loop-child
decreases-loop-child g l = length l.left
