use Rattle.std.proofs.Common.{◌≡◌, ◌<◌, ◌≤◌, List, length, get_or, set, sym, ap, ◌∙◌, subst, arith}
use Rattle.std.proofs.lemmas.List.{set-get_or}
use Rattle.std.proofs.lemmas.Option.{slice_get_within}
use Rattle.ux_book.specs.Pasts.{Caller, calls_by}
use Rattle.ux_book.specs.Trails.{Trailed}
use Rattle.ux_book.proofs.Settling.{exact_more}
use Rattle.ux_book.proofs.account.confirm_all.Goals as goal

pub loop-spent-preserved : goal.loop-spent-preserved
loop-spent-preserved g c =
    let i = c.loop-spent.invariant in
    let w = c.spent-item.result in
    let ws = c.args.spents.now in (
      c.confirm.ensures.trail ∙ i.0,
      ap (λ (x : Caller). set c.loop-spent.spents c.loop-spent.spent-index x) c.confirm.ensures.spent
          ∙ (set-get_or c.loop-spent.spents c.loop-spent.spent-index w ∙ i.1),
      exact_more c.args.trail.now.entries ws c.loop-spent.spent-index w
          (subst (λ (l : List Caller). w ≡ get_or l c.loop-spent.spent-index w) i.1 c.spent-item.is)
          (subst (λ (t : Trailed). calls_by w.pid.0 t.entries ≡ w.past) i.0
          (subst (λ (x : Caller). calls_by x.pid.0 c.loop-spent.trail.entries ≡ x.past) (sym c.spent-item.is) c.confirm.ensures.exact)) i.2,
    )

pub returns-clause-exact : goal.returns-clause-exact
returns-clause-exact g c = λ k s at.
    let end : length c.args.spents.now ≤ c.loop-spent.spent-index = c.loop-spent-test.false in
    let within : k < length c.args.spents.now = slice_get_within c.args.spents.now k s at in
    c.loop-spent.invariant.2 k s (omega arith) at
