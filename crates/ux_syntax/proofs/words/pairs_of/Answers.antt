use Rattle.ux_syntax.proofs.Pairs.{pairs_more}
use Rattle.ux_syntax.proofs.words.pairs_of.Goals as goal

pub loop-rest-preserved : goal.loop-rest-preserved
loop-rest-preserved c =
    rw c.in_ok-push.ensures.items
    (pairs_more c.loop-rest.bytes.items c.loop-rest.rest.now c.in_ok-high.high c.in_ok-low.low _ c.in-len2-up.len_at_least
    c.in_ok-high.ensures.exact c.in_ok-low.ensures.exact c.loop-rest.invariant)
