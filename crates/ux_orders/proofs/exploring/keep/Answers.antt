use Rattle.std.proofs.Common.{◌≡◌, ◌<◌, ◌≤◌, List, length, refl, ap, ◌∙◌, arith, slice_index_or}
use Rattle.std.proofs.lemmas.List.{get_or_read_under}
use Rattle.ux_model.specs.Types.{Entry}
use Rattle.ux_orders.specs.declared.ran.Ran.{Ran}
use Rattle.ux_orders.specs.Orders.{entries_of}
use Rattle.ux_orders.specs.Outcomes.{SameOutcome, Keeps}
use Rattle.ux_orders.proofs.exploring.keep.Goals as goal

pub returns-then-entries : goal.returns-then-entries
returns-then-entries c =
    let items = c.args.outcomes.now.items in
    let place = c.in-Some.place in
    let within : place < length items = rw c.deref.ensures.value at c.in-Some.ensures.within in
    let same : SameOutcome c.args.count c.args.ran (slice_index_or items place c.args.ran) =
    rw c.deref.ensures.value at c.in-Some.ensures.same in
    let here : c.index.result.now ≡ slice_index_or items place c.args.ran =
    get_or_read_under items place (length items) c.index.result.now c.args.ran c.index.ensures within refl in
    let one = ap (λ (es : List Entry). length es) c.entries.ensures in
    let other = ap (λ (es : List Entry). length es) c.entries-2.ensures ∙ ap (λ (r : Ran). length (entries_of r)) here in
    let less = c.if-entries.true in
    let short : length (entries_of c.args.ran) ≤ length (entries_of (slice_index_or items place c.args.ran)) =
    omega (arith, less, one, other) in
    Keeps.replaced place within same short refl

pub returns-else-entries : goal.returns-else-entries
returns-else-entries c =
    let items = c.args.outcomes.now.items in
    let place = c.in-Some.place in
    let within : place < length items = rw c.deref.ensures.value at c.in-Some.ensures.within in
    let same : SameOutcome c.args.count c.args.ran (slice_index_or items place c.args.ran) =
    rw c.deref.ensures.value at c.in-Some.ensures.same in
    let here : c.index.result.now ≡ slice_index_or items place c.args.ran =
    get_or_read_under items place (length items) c.index.result.now c.args.ran c.index.ensures within refl in
    let one = ap (λ (es : List Entry). length es) c.entries.ensures in
    let other = ap (λ (es : List Entry). length es) c.entries-2.ensures ∙ ap (λ (r : Ran). length (entries_of r)) here in
    let less = c.if-entries.false in
    let short : length (entries_of (slice_index_or items place c.args.ran)) ≤ length (entries_of c.args.ran) =
    omega (arith, less, one, other) in
    Keeps.known place within same short refl
