use Rattle.std.proofs.Common.{[], ◌∷◌, ◌++◌, ap, sym, ◌∙◌, append_assoc, rules}
use Rattle.std.proofs.Output.{has_written_append, has_written_of_eq}
use Rattle.ux_trace.proofs.Texts.{spaced_more}
use Rattle.ux_trace.proofs.entry.SpacedListDisplay.fmt.Goals as goal

pub loop-number-preserved : goal.loop-number-preserved
loop-number-preserved g c =
    let written = c.loop-number.invariant.0 in
    let number = c.in-Some.number.now in
    let left = c.next.new.self in (
      written ++ number ∷ [],
      append_assoc written (number ∷ []) left
          ∙ (ap (λ numbers. written ++ numbers) (sym c.in-Some.ensures.steps) ∙ c.loop-number.invariant.1),
      λ p. has_written_of_eq _ _ _ _ _ (spaced_more written number)
          (has_written_append _ _ _ _ _ _ (c.loop-number.invariant.2 p) (search rules)),
    )
