use Rattle.std.proofs.Common.{◌≡◌, ◌+◌, replicate}
use Rattle.ux_orders.proofs.crew.first_places.Given as goal

abbrev pub invariant-loop-number : goal.invariant-loop-number
invariant-loop-number l = l.places.items ≡ replicate (l._number + 1) 0
