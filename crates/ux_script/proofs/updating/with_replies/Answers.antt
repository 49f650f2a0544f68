use Rattle.std.proofs.Common.{Bor, List, ℕ, [], map}
use Rattle.ux_script.proofs.Updates.{next_text, more}
use Rattle.ux_script.proofs.updating.with_replies.Goals as goal

abbrev none : Bor (List ℕ)
none = record { ref_ptr = (0, 0); now = [] }

pub loop-index-preserved : goal.loop-index-preserved
loop-index-preserved c =
    let line = next_text c.in-Some.rest.now c.loop-index.index none c.loop-index-test.true in
    more c.args.lines.now c.args.history.now _ (map (λ text. text.now) c.in-Some.rest.now) _ _ _ _ _ _ _ c.loop-index.invariant line
    c.in_ok-got.ensures c.in_ok-put_behind.ensures c.in_ok-asked-2.ensures
