use Rattle.std.proofs.Common.{◌<◌, get_or, rules}
use Rattle.std.proofs.Output.{has_written_append, has_written_of_eq}
use Rattle.ux_trace.proofs.Texts.{pairs_more}
use Rattle.ux_trace.proofs.words.HexTextDisplay.fmt.Goals as goal

pub loop-byte-preserved : goal.loop-byte-preserved
loop-byte-preserved g c = λ p.
    let bytes = c.args.self.now.0.now in
    let i = c.loop-byte.byte-index in
    let small : get_or bytes i 0 < 256 = search rules in
    has_written_of_eq _ _ _ _ _ (pairs_more bytes i c.loop-byte-test.true small)
    (has_written_append _ _ _ _ _ _ (c.loop-byte.invariant p) (search rules))
