use Rattle.std.proofs.Common.{rules}
use Rattle.std.proofs.Output.{has_written_append, has_written_of_eq}
use Rattle.ux_syntax.proofs.WaitingTexts.{place_more}
use Rattle.ux_syntax.proofs.waiting.WaitingDisplay.fmt.Goals as goal

pub loop-further-preserved : goal.loop-further-preserved
loop-further-preserved g c = λ p.
    has_written_of_eq _ _ _ _ _ (place_more _ c.loop-further.further-index c.loop-further-test.true)
    (has_written_append _ _ _ _ _ _ (c.loop-further.invariant p) (search rules))
