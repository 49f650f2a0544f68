use Rattle.std.proofs.Common.{◌+◌, length}
use Rattle.ux_watch.specs.Changing.{told_at}
use Rattle.ux_watch.proofs.Changing.{Merged}
use Rattle.ux_watch.proofs.watch.changes_between.Given as goal

abbrev pub invariant-loop-id : goal.invariant-loop-id
invariant-loop-id l = Merged (told_at l.before) (told_at l.now) l.old l.new l.changes.items

abbrev pub decreases-loop-id : goal.decreases-loop-id
decreases-loop-id l = length l.old + length l.new
