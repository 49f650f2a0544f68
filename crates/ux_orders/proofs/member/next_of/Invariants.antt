use Rattle.std.proofs.Common.{drop}
use Rattle.ux_orders.specs.Threads.{has_come}
use Rattle.ux_orders.proofs.Crewing.{Skips}
use Rattle.ux_orders.proofs.member.next_of.Given as goal

-- the lines up to here are passed
abbrev pub invariant-loop-place : goal.invariant-loop-place
invariant-loop-place g l = Skips (has_come l.serial) l.pid.0 (drop l.from l.lines) (drop l.place l.lines)
