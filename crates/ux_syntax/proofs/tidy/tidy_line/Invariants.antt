use Rattle.std.proofs.Common.{◌≡◌, ◌++◌, length}
use Rattle.ux_syntax.specs.Tidy.{tidy_from, tidy_line}
use Rattle.ux_syntax.proofs.tidy.tidy_line.Given as goal

-- what stands there, and what is left of the rest, is the line
abbrev pub invariant-loop-rest : goal.invariant-loop-rest
invariant-loop-rest l = l.line.items ++ tidy_from l.position l.rest ≡ tidy_line l.text

abbrev pub decreases-loop-rest : goal.decreases-loop-rest
decreases-loop-rest l = length l.rest
