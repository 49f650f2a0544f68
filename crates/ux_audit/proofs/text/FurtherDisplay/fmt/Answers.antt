use Rattle.std.proofs.Common.{rules}
use Rattle.std.proofs.Output.{has_written_append, has_written_of_eq}
use Rattle.ux_audit.proofs.Texts.{further_more}
use Rattle.ux_audit.proofs.text.FurtherDisplay.fmt.Goals as goal

pub loop-link-preserved : goal.loop-link-preserved
loop-link-preserved g c = λ p.
    let links = c.args.self.now.0.now in
    let i = c.loop-link.link-index in
    has_written_of_eq _ _ _ _ _ (further_more links i c.loop-link-test.true)
    (has_written_append _ _ _ _ _ _ (c.loop-link.invariant p) (search rules))
