use Rattle.std.proofs.Common.{◌<◌, length, ap, ◌∙◌, arith}
use Rattle.ux_state.specs.EntryCounts.{entry_refs, closed_on_exec}
use Rattle.ux_state.proofs.TableCounts.{marked_more, marked_at}
use Rattle.ux_state.proofs.references.release_marked.Goals as goal

pub release-requires : goal.release-requires
release-requires c = λ k.
    let inside : c.loop-number.number < length c.args.table.now = omega (arith, c.loop-number-test.true, c.limit-number-end.ensures) in
    let one = marked_at k c.args.table.now c.loop-number.number inside in
    let all = c.requires k in
    let so_far = c.loop-number.invariant.counts k in
    let same = ap (entry_refs k) (c.closed_on_exec.ensures ∙ ap closed_on_exec c.get.ensures) in
    omega (arith, one, all, so_far, same)

pub loop-number-preserved : goal.loop-number-preserved
loop-number-preserved c =
    let inside : c.loop-number.number < length c.args.table.now = omega (arith, c.loop-number-test.true, c.limit-number-end.ensures) in
    record {
      places = c.loop-number.invariant.places ∙ c.release.ensures.places;
      counts = λ k.
          let more = marked_more k c.args.table.now c.loop-number.number inside in
          let so_far = c.loop-number.invariant.counts k in
          let less = c.release.ensures.counts k in
          let same = ap (entry_refs k) (c.closed_on_exec.ensures ∙ ap closed_on_exec c.get.ensures) in
          omega (arith, more, so_far, less, same);
    }
