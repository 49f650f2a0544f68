use Rattle.std.proofs.Common.{length}
use Rattle.ux_syntax.proofs.Plainly.{IsTextSoFar}
use Rattle.ux_syntax.proofs.plain.text_of.Given as goal

abbrev pub invariant-loop-rest : goal.invariant-loop-rest
invariant-loop-rest l = IsTextSoFar l.text l.bytes.items l.rest

abbrev pub decreases-loop-rest : goal.decreases-loop-rest
decreases-loop-rest l = length l.rest
