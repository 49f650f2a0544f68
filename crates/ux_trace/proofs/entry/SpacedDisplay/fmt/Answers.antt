use Rattle.std.proofs.Common.{◌<◌, rules}
use Rattle.std.proofs.Output.{has_written_append, has_written_of_eq}
use Rattle.ux_trace.proofs.Texts.{spaced_next}
use Rattle.ux_trace.proofs.entry.SpacedDisplay.fmt.Goals as goal

pub loop-number-preserved : goal.loop-number-preserved
loop-number-preserved g c = λ p.
    has_written_of_eq _ _ _ _ _ (spaced_next c.args.self.now.0.now c.loop-number.number-index c.loop-number-test.true)
    (has_written_append _ _ _ _ _ _ (c.loop-number.invariant p) (search rules))
