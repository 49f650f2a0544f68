use Rattle.std.proofs.Common.{◌≡◌, ◌<◌, List, length, get_or, set, arith, ap, ◌∙◌}
use Rattle.std.proofs.lemmas.List.{get_or_default}
use Rattle.std.proofs.lemmas.List.Edits.{map_over_more}
use Rattle.ux_state.specs.declared.openings.Openings.{Openings}
use Rattle.ux_state.specs.Counting.{none_open}
use Rattle.ux_state.proofs.release.uncount_all.Goals as goal

pub loop-counts-preserved : goal.loop-counts-preserved
loop-counts-preserved c =
    let items : List Openings = c.loop-counts.counts-items in
    let here : Openings = get_or items c.loop-counts.counts-index none_open in
    let inside : c.loop-counts.counts-index < length items = omega arith in
    let new : c.new.result ≡ none_open = λ j. record { readers = c.new.ensures.readers j; writers = c.new.ensures.writers j } in
    ap (set items c.loop-counts.counts-index) new
    ∙ map_over_more (λ _. none_open) c.deref_mut-counts-items.result.now items c.loop-counts.counts-index here c.loop-counts-test.true
    c.loop-counts.invariant (get_or_default items c.loop-counts.counts-index none_open here inside)
