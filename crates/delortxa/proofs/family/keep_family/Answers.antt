use Rattle.std.proofs.Common.{rules, ◌≡◌, ◌∙◌, ◌++◌, List, length, sym, subst}
use Rattle.std.specs.Prelude.{IfOk}
use Rattle.ux_model.specs.State.{State}
use Rattle.ux_book.specs.Pasts.{Caller}
use Rattle.ux_book.specs.Settling.{Exact}
use Rattle.delortxa.specs.Promising.{EachPromises, EachPromisesCalls, Ended, EachChildPromises, EachEnded, EndedAsChild, present}
use Rattle.delortxa.proofs.Layers.{are_fresh, all_outputs, calls_promised, children_promised, exact_front, exact_back}
use Rattle.delortxa.proofs.family.keep_family.Goals as goal

pub run_both-ended-requires-clause-fresh : goal.run_both-ended-requires-clause-fresh
run_both-ended-requires-clause-fresh g c κs within = are_fresh (length c.args.kernel.processes) c.in_ok-seats.seats.items
    (c.in_ok-seats.ensures ∙ c.in-Ok.ensures.seats)

pub returns-clause-all : goal.returns-clause-all
returns-clause-all g c =
    let long = subst (λ r. IfOk r (λ ended. length ended.items ≡ length c.in_ok-seats.seats.items)) c.in_ok-ended.was
    c.run_both-ended.ensures.all in
    all_outputs (length c.args.kernel.processes) c.in_ok-seats.seats.items c.in_ok-ended.field-0.items c.in_ok-outputs.outputs.items
    (c.in_ok-seats.ensures ∙ c.in-Ok.ensures.seats) long c.in_ok-outputs.ensures.outputs

pub returns-clause-promised : goal.returns-clause-promised
returns-clause-promised g c =
    let promise = g.P.FamilyProgram.promise g.W.BookName.boot in
    let entries = c.in_ok-entries.entries.items in
    let spents = c.in_ok-outputs.spents.items in
    let childrens = c.in_ok-children.spent_children.items in
    let same : c.deref_mut.result.now ≡ spents ++ childrens = search rules in
    let exact = subst (λ (l : List Caller). Exact entries l) same c.in_ok-entries.ensures.exact in
    let each = subst (λ r. IfOk r (λ ended. EachPromises (Ended promise) c.args.program.now ended.items)) c.in_ok-ended.was
    c.run_both-ended.ensures.each in
    subst (λ (S : State). EachPromisesCalls (g.P.FamilyProgram.promise S) c.args.program.now c.in_ok-outputs.outputs.items entries)
    (sym c.requires.named)
    (calls_promised promise c.args.program.now c.in_ok-ended.field-0.items c.in_ok-outputs.outputs.items each
    c.in_ok-outputs.ensures.outputs
    spents entries c.in_ok-outputs.ensures.spents (exact_front entries spents childrens exact))

pub returns-clause-children : goal.returns-clause-children
returns-clause-children g c =
    let promise = g.P.FamilyProgram.promise_of_child g.W.BookName.boot in
    let entries = c.in_ok-entries.entries.items in
    let spents = c.in_ok-outputs.spents.items in
    let childrens = c.in_ok-children.spent_children.items in
    let same : c.deref_mut.result.now ≡ spents ++ childrens = search rules in
    let exact = subst (λ (l : List Caller). Exact entries l) same c.in_ok-entries.ensures.exact in
    let kept = EndedAsChild promise c.args.program.now in
    let each = subst (λ r. IfOk r (λ ended. EachEnded kept (present ended.items))) c.in_ok-ended_children.was
    c.run_both-ended.ensures.children in
    let those = subst (λ l. EachEnded kept l) (sym c.in_ok-those_present.ensures) each in
    subst (λ (S : State). EachChildPromises (g.P.FamilyProgram.promise_of_child S) c.args.program.now c.in_ok-children.children.items
    entries)
    (sym c.requires.named)
    (children_promised promise c.args.program.now c.in_ok-those_present.field-0.items c.in_ok-children.children.items those
    c.in_ok-children.ensures.outputs
    childrens entries c.in_ok-children.ensures.spents (exact_back entries spents childrens exact))
