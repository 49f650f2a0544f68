use Rattle.std.proofs.Common.{ℕ, slice_index_or, ap, ◌∙◌, arith}
use Rattle.std.proofs.lemmas.List.{get_or_read}
use Rattle.ux_slots.specs.Held.{count_at}
use Rattle.ux_state.proofs.Queues.{times_at}
use Rattle.ux_state.proofs.references.release_all.Goals as goal

pub release_ref-requires : goal.release_ref-requires
release_ref-requires c =
    let r : ℕ = slice_index_or c.args.references.now c.loop-reference.reference-index 0 in
    let here = c.description.ensures ∙ get_or_read c.args.references.now c.loop-reference.reference-index c.reference-item.result
    c.loop-reference-test.true c.reference-item.is 0 in
    let a = times_at c.args.references.now c.loop-reference.reference-index c.loop-reference-test.true in
    let b = c.requires r in
    let e = c.loop-reference.invariant.counts r in
    let f = ap (count_at c.loop-reference.slots) here in
    omega (arith, a, b, e, f)
