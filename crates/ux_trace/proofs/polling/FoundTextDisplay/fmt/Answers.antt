use Rattle.std.proofs.Common.{rules}
use Rattle.std.proofs.Output.{has_written_append, has_written_of_eq}
use Rattle.ux_trace.proofs.Texts.{found_next}
use Rattle.ux_trace.proofs.polling.FoundTextDisplay.fmt.Goals as goal

pub loop-found-preserved : goal.loop-found-preserved
loop-found-preserved g c = λ p.
    has_written_of_eq _ _ _ _ _ (found_next c.args.self.now.0.now c.loop-found.found-index c.loop-found-test.true)
    (has_written_append _ _ _ _ _ _ (c.loop-found.invariant p) (search rules))
