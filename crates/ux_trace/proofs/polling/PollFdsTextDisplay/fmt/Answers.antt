use Rattle.std.proofs.Common.{rules}
use Rattle.std.proofs.Output.{has_written_append, has_written_of_eq}
use Rattle.std.proofs.lemmas.List.{map_more}
use Rattle.ux_model.specs.Types.{PollFd}
use Rattle.ux_trace.specs.Echoes.{asked_text}
use Rattle.ux_trace.proofs.Texts.{text_joined}
use Rattle.ux_trace.proofs.polling.PollFdsTextDisplay.fmt.Goals as goal

pub loop-asked-preserved : goal.loop-asked-preserved
loop-asked-preserved g c =
    let none : PollFd = record { fd = record { 0 = 0 }; events = record { 0 = 0 } } in
    let next = text_joined _ _ _ (map_more asked_text c.args.self.now.0.now c.loop-asked.asked-index none c.loop-asked-test.true) in
    let so_far = c.loop-asked.invariant in (
      search rules,
      next.1,
      λ p. has_written_of_eq _ _ _ _ _ next.0 (has_written_append _ _ _ _ _ _ (so_far.2 p) (search rules)),
    )
