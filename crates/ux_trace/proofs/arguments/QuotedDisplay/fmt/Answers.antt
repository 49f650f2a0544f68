use Rattle.std.proofs.Common.{◌≡◌, true, false, ◌<◌, get_or, rules, sym, ◌∙◌}
use Rattle.std.proofs.Output.{has_written_append, has_written_of_eq}
use Rattle.ux_trace.specs.Echoes.{is_shown}
use Rattle.ux_trace.proofs.Quotes.{quoted_more, shown_text, hidden_text}
use Rattle.ux_trace.proofs.arguments.QuotedDisplay.fmt.Goals as goal
use Rattle.ux_trace.proofs.arguments.QuotedDisplay.fmt.Goals.{then-is_shown+in_ok-write-2, else-is_shown+in_ok-write-3}

pub loop-byte-preserved : goal.loop-byte-preserved
loop-byte-preserved g c = λ p.
    let bytes = c.args.self.now.0.now in
    let i = c.loop-byte.byte-index in
    let b = get_or bytes i 0 in
    let lt = c.loop-byte-test.true in
    let small : b < 256 = search rules in
    let so_far = c.loop-byte.invariant p in
    elim c.if-is_shown.branch [
      | then-is_shown+in_ok-write-2 w ↦
          let plain : is_shown b ≡ true = sym c.is_shown.ensures ∙ w.if-is_shown.true in
          rw w.f-is (has_written_of_eq _ _ _ _ _ (quoted_more bytes i _ lt (shown_text b plain))
          (has_written_append _ _ _ _ _ _ so_far (search rules)))
      | else-is_shown+in_ok-write-3 w ↦
          let other : is_shown b ≡ false = sym c.is_shown.ensures ∙ w.if-is_shown.false in
          rw w.f-is (has_written_of_eq _ _ _ _ _ (quoted_more bytes i _ lt (hidden_text b other small))
          (has_written_append _ _ _ _ _ _ so_far (search rules)))
    ]
