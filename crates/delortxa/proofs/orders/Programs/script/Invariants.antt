use Rattle.std.proofs.Common.{◌≡◌, take}
use Rattle.delortxa.proofs.orders.Programs.script.Given as goal

-- what was copied so far
abbrev pub invariant-loop-line : goal.invariant-loop-line
invariant-loop-line l = l.lines.items ≡ take l.line-index l.self
