use Rattle.std.proofs.Common.{◌≡◌, length}
use Rattle.ux_orders.specs.Lists.{pids_of}
use Rattle.ux_orders.proofs.order.next_made.Given as goal

abbrev pub invariant-loop-entry : goal.invariant-loop-entry
invariant-loop-entry l = pids_of l.entries ≡ pids_of l.rest

abbrev pub decreases-loop-entry : goal.decreases-loop-entry
decreases-loop-entry l = length l.rest
