use Rattle.std.proofs.Common.{ℕ, ◌≤◌, length}
use Rattle.delortxa.specs.Giving.{Takes, request_of}
use Rattle.delortxa.proofs.whole.give_all.Given as goal

abbrev pub invariant-loop-left : goal.invariant-loop-left
invariant-loop-left g l =
    ((k : ℕ) × Takes g.P.Calls.did l.who (request_of l.way l.fd) l.bytes k l.left l.initial.caller l.caller)
    × (length l.left ≤ length l.bytes)

abbrev pub decreases-loop-left : goal.decreases-loop-left
decreases-loop-left g l = length l.left
