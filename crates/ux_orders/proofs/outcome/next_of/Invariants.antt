use Rattle.std.proofs.Common.{◌≡◌, length}
use Rattle.ux_orders.specs.Outcomes.{answers_of}
use Rattle.ux_orders.proofs.outcome.next_of.Given as goal

abbrev pub invariant-loop-entry : goal.invariant-loop-entry
invariant-loop-entry l = answers_of l.pid l.entries ≡ answers_of l.pid l.rest

abbrev pub decreases-loop-entry : goal.decreases-loop-entry
decreases-loop-entry l = length l.rest
