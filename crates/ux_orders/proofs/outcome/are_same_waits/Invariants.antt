use Rattle.std.proofs.Common.{◌≡◌, drop}
use Rattle.ux_orders.proofs.outcome.are_same_waits.Given as goal

-- what is left is the same exactly where all is
abbrev pub invariant-loop-wait : goal.invariant-loop-wait
invariant-loop-wait l = (drop l.wait-index l.one ≡ l.rest → l.one ≡ l.other) × (l.one ≡ l.other → drop l.wait-index l.one ≡ l.rest)
