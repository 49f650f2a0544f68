use Rattle.std.proofs.Common.{◌≡◌, length}
use Rattle.ux_syntax.specs.Reading.{pairs_at}
use Rattle.ux_syntax.proofs.Pairs.{with_front}
use Rattle.ux_syntax.proofs.words.pairs_of.Given as goal

abbrev pub invariant-loop-rest : goal.invariant-loop-rest
invariant-loop-rest l = with_front l.bytes.items (pairs_at l.rest) ≡ pairs_at l.digits

abbrev pub decreases-loop-rest : goal.decreases-loop-rest
decreases-loop-rest l = length l.rest
