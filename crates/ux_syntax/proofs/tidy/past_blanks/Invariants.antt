use Rattle.std.proofs.Common.{◌≡◌, length}
use Rattle.ux_syntax.specs.Tidy.{past_blanks}
use Rattle.ux_syntax.proofs.tidy.past_blanks.Given as goal

-- what is left has the same behind its blanks
abbrev pub invariant-loop-rest : goal.invariant-loop-rest
invariant-loop-rest l = past_blanks l.text ≡ past_blanks l.rest

abbrev pub decreases-loop-rest : goal.decreases-loop-rest
decreases-loop-rest l = length l.rest
