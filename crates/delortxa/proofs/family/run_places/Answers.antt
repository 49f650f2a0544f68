use Rattle.std.proofs.Common.{◌≡◌, ◌<◌, ◌∙◌, length, rules, subst, arith, Option, Some}
use Rattle.std.specs.Prelude.{IfOk, IfSome}
use Rattle.std.proofs.lemmas.Option.{slice_get_within, get_or_from_slice_get}
use Rattle.delortxa.specs.Promising.{EndedAsChild}
use Rattle.delortxa.proofs.Layers.{both_ok, each_present}
use Rattle.delortxa.proofs.family.run_places.Goals as goal

pub returns : goal.returns
returns g c =
    let kept = EndedAsChild (g.P.FamilyProgram.promise_of_child g.W.BookName.boot) c.args.program.now in
    let long : IfOk c.map_indices.result (λ ended. length ended.items ≡ c.args.children) = search rules in
    both_ok c.map_indices.result _ _ _
    (λ ended long each. each_present kept ended.items
    (λ i x at.
    let within = slice_get_within ended.items i (Some x) at in
    let given = (each i (Some x) (omega (arith, within, long))).1 in
    subst (λ o. IfSome o kept) (get_or_from_slice_get ended.items i (Some x) (Some x) at) given.met))
    long c.map_indices.ensures.each
