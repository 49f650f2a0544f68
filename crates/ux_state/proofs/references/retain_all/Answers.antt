use Rattle.std.proofs.Common.{ℕ, ◌==◌, slice_index_or, take, ap, ◌∙◌, arith}
use Rattle.std.proofs.lemmas.List.{get_or_read, length-take}
use Rattle.std.proofs.lemmas.List.Sums.{count_by-le-length}
use Rattle.std.proofs.lemmas.Option.{slice_get-get_or}
use Rattle.ux_slots.specs.Held.{count_at}
use Rattle.ux_state.proofs.references.retain_all.Goals as goal

pub retain-requires-clause-room : goal.retain-requires-clause-room
retain-requires-clause-room c =
    let i : ℕ = c.loop-reference.reference-index in
    let r : ℕ = slice_index_or c.args.references.now i 0 in
    let here = c.description.ensures ∙ get_or_read c.args.references.now i c.reference-item.result c.loop-reference-test.true
    c.reference-item.is 0 in
    let room = c.requires.room i r (slice_get-get_or c.args.references.now i 0 c.loop-reference-test.true) in
    let so_far = c.loop-reference.invariant.counts r in
    let few = count_by-le-length (λ n. n == r) (take i c.args.references.now) in
    let cut = length-take i c.args.references.now in
    let f = ap (count_at c.loop-reference.slots) here in
    omega (arith, c.loop-reference-test.true, room, so_far, few, cut, f)
