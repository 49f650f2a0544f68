use Rattle.std.proofs.Common.{◌<◌, ℕ, List, length, get_or, arith}
use Rattle.std.proofs.lemmas.List.{get_or_default}
use Rattle.std.proofs.lemmas.List.Edits.{map_over_more}
use Rattle.ux_state.proofs.binding.unlink_all.Goals as goal

pub loop-count-preserved : goal.loop-count-preserved
loop-count-preserved c =
    let items : List ℕ = c.loop-count.count-items in
    let here : ℕ = get_or items c.loop-count.count-index 0 in
    let inside : c.loop-count.count-index < length items = omega arith in
    map_over_more (λ _. 0) c.deref_mut-count-items.result.now items c.loop-count.count-index here c.loop-count-test.true
    c.loop-count.invariant (get_or_default items c.loop-count.count-index 0 here inside)
