use Rattle.std.proofs.Common.{◌≡◌, true, false, ◌<◌, get_or, rules, sym, ◌∙◌}
use Rattle.std.proofs.Output.{has_written_append, has_written_of_eq}
use Rattle.ux_trace.specs.Trace.{stands}
use Rattle.ux_trace.proofs.Texts.{text_more, plain_text, escaped_text}
use Rattle.ux_trace.proofs.words.NameTextDisplay.fmt.Goals as goal
use Rattle.ux_trace.proofs.words.NameTextDisplay.fmt.Goals.{then-stands+in_ok-write, else-stands+in_ok-write-2}

pub loop-byte-preserved : goal.loop-byte-preserved
loop-byte-preserved g c = λ p.
    let bytes = c.args.self.now.0.now in
    let i = c.loop-byte.byte-index in
    let b = get_or bytes i 0 in
    let lt = c.loop-byte-test.true in
    let small : b < 256 = search rules in
    let so_far = c.loop-byte.invariant p in
    elim c.if-stands.branch [
      | then-stands+in_ok-write w ↦
          let plain : stands b ≡ true = sym c.stands.ensures ∙ w.if-stands.true in
          rw w.f-is (has_written_of_eq _ _ _ _ _ (text_more bytes i _ lt (plain_text b plain))
          (has_written_append _ _ _ _ _ _ so_far (search rules)))
      | else-stands+in_ok-write-2 w ↦
          let other : stands b ≡ false = sym c.stands.ensures ∙ w.if-stands.false in
          rw w.f-is (has_written_of_eq _ _ _ _ _ (text_more bytes i _ lt (escaped_text b other small))
          (has_written_append _ _ _ _ _ _ so_far (search rules)))
    ]
