use Rattle.std.proofs.Common.{◌≡◌, ◌∙◌, ap, ◌++◌, [], ◌∷◌, List, ℕ, length, take, None, arith}
use Rattle.std.proofs.lemmas.List.{length-take, take_min}
use Rattle.ux_rights.specs.Drafts.{drafted}
use Rattle.ux_stream.specs.Marks.{Stretch, message_of, cut_by}
use Rattle.ux_stream.proofs.Cuts.{queue_push, cut_push}
use Rattle.ux_stream.proofs.queue.StreamQueue.send.Goals as goal

pub invariant_of-self-2 : goal.invariant_of-self-2
invariant_of-self-2 g c =
    let marks = c.in_default.ensures.items in
    let bytes = c.append.ensures in
    let count = c.min-count.ensures in
    let size = length-take c.min-count.result c.as_slice-bytes.result.now in
    let made = ap (λ (m : Stretch). m.count) c.new-mark.ensures in
    let long = ap length c.as_slice-bytes.ensures in
    rw (marks, bytes, c.reserve.ensures.items)
    (queue_push c.self.inside.marks.items c.new-mark.result c.self.inside.ring.items (take c.min-count.result c.as_slice-bytes.result.now)
    c.self.invariant (omega (arith, made, count, size)) (omega (arith, count, size, long, c.requires)))

pub returns-clause-ok : goal.returns-clause-ok
returns-clause-ok g c =
    let q = c.self.inside in
    let marks : c.push_back.new.self.items ≡ q.marks.items ++ c.new-mark.result ∷ [] = c.in_default.ensures.items in
    let bytes : c.append.new.self.items ≡ q.ring.items ++ take c.min-count.result c.as_slice-bytes.result.now = c.append.ensures
    ∙ ap (λ (b : List ℕ). b ++ take c.min-count.result c.as_slice-bytes.result.now) c.reserve.ensures.items in
    let size = length-take c.min-count.result c.as_slice-bytes.result.now in
    let count = c.min-count.ensures in
    let made = ap (λ (m : Stretch). m.count) c.new-mark.ensures in
    (λ j. cut_by (marks j) (bytes j)) ∙
    cut_push q.marks.items c.new-mark.result q.ring.items (take c.min-count.result c.as_slice-bytes.result.now) c.self.invariant.whole
    (omega (arith, made, count, size)) ∙
    (λ j. c.self.view_is j ++ message_of (c.new-mark.ensures j) (take (c.min-count.ensures j) c.as_slice-bytes.result.now) ∷ []) ∙
    ap (λ (b : List ℕ). c.args.self.now ++ record (drafted c.args.draft c.args.rights None) { bytes = b } ∷ [])
    (take_min c.args.room c.as_slice-bytes.result.now ∙ ap (take c.args.room) c.as_slice-bytes.ensures)
