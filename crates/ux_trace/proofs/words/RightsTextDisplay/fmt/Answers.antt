use Rattle.std.proofs.Common.{rules}
use Rattle.std.proofs.Output.{has_written_append, has_written_of_eq}
use Rattle.ux_model.specs.Types.{Fd}
use Rattle.ux_trace.proofs.Texts.{rights_more}
use Rattle.ux_trace.proofs.words.RightsTextDisplay.fmt.Goals as goal

pub loop-fd-preserved : goal.loop-fd-preserved
loop-fd-preserved g c =
    let none : Fd = record { 0 = 0 } in
    let next = rights_more (λ (fd : Fd). fd.0) c.args.self.now.0.now c.loop-fd.fd-index none c.loop-fd-test.true in
    let so_far = c.loop-fd.invariant in (
      search rules,
      next.1,
      λ p. has_written_of_eq _ _ _ _ _ next.0 (has_written_append _ _ _ _ _ _ (so_far.2 p) (search rules)),
    )
