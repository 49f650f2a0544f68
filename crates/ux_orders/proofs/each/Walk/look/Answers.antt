use Rattle.std.proofs.Common.{subst}
use Rattle.std.proofs.lemmas.Result.{IfOk-weaker, on_ok_weaker}
use Rattle.ux_model.specs.State.{State}
use Rattle.ux_syntax.specs.Spelling.{plan_of}
use Rattle.ux_orders.specs.Walks.{IsWalk, Leads}
use Rattle.ux_orders.proofs.each.Walk.look.Goals as goal

pub returns-clause-leads : goal.returns-clause-leads
returns-clause-leads g c =
    let s = plan_of c.args.script.now in
    IfOk-weaker c.look_named.result _ _
    (λ next leads all.
    subst (λ (boot : State). Leads boot s c.look_named.new.self.found.outcomes.items c.args.pids.now next.items)
    c.in_ok-kernel.ensures.state (leads all))
    c.look_named.ensures.leads

pub returns-clause-walk : goal.returns-clause-walk
returns-clause-walk g c =
    let s = plan_of c.args.script.now in
    on_ok_weaker c.look_named.result
    (λ walk. subst (λ (boot : State). IsWalk boot s c.look_named.new.self) c.in_ok-kernel.ensures.state walk)
    c.look_named.ensures.walk
