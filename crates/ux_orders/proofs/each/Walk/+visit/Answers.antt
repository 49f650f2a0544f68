use Rattle.std.proofs.Common.{◌≡◌, List, ◌∷◌, ◌++◌, [], take, get_or, true, false, sym, ap, ◌∙◌, subst}
use Rattle.std.proofs.lemmas.List.{take_all}
use Rattle.ux_model.specs.Types.{Pid}
use Rattle.ux_model.specs.State.{State}
use Rattle.ux_syntax.specs.Spelling.{plan_of}
use Rattle.ux_orders.specs.declared.chooser.Ready.{Ready}
use Rattle.ux_orders.specs.Threads.{KnowsBehind}
use Rattle.ux_orders.specs.Walks.{IsWalk}
use Rattle.ux_orders.proofs.Walking.{EachKnown, leads_still, each_still, grows_then, each_push, popped, knows_behind}
use Rattle.ux_orders.proofs.each.Walk.+visit.Goals as goal

pub loop-one-preserved : goal.loop-one-preserved
loop-one-preserved g t c =
    let s = plan_of c.args.script.now in
    let boot = g.B.Boot.state c.args.machine.now s in
    let none : Ready = record { pid = record { 0 = 0 }; alone = false } in
    let ready = c.deref-one-items.result.now in
    let pid = (get_or ready c.loop-one.one-index none).pid in
    let before = c.loop-one.invariant in
    let visited = c.in_ok-visit.ensures in
    let old = c.loop-one.self.found.outcomes.items in
    let new = c.visit.new.self.found.outcomes.items in
    let pids = c.args.pids.now.items in
    let pushed : c.push.new.self.items ≡ pids ++ pid ∷ [] =
    c.in_ok-push.ensures.items ∙ ap (λ (ps : List Pid). ps ++ pid ∷ []) before.back in
    let pid_knows = λ (all : c.visit.new.self.found.is_all ≡ true).
    subst (λ (b : State). KnowsBehind b s new (pids ++ pid ∷ [])) before.machine
    (subst (λ (ps : List Pid). KnowsBehind (g.B.Boot.state c.loop-one.machine s) s new ps) pushed (visited.all all)) in
    record {
      walk = subst (λ (b : State). IsWalk b s c.visit.new.self) (sym visited.machine) visited.walk;
      grows = grows_then s c.args.self.now c.loop-one.self c.visit.new.self before.grows visited.grows;
      leads = λ all. leads_still boot s old new pids ready visited.grows.outcomes (before.leads (visited.grows.all all));
      each = λ all.
          each_push boot s new pids ready c.loop-one.one-index none c.loop-one-test.true
          (each_still boot s old new pids (take c.loop-one.one-index ready) visited.grows.outcomes (before.each (visited.grows.all all)))
          (pid_knows all);
      back =
          popped c.visit.new.pids.items c.pop.new.self.items pids pid c.pop.result _ _ c.pop.ensures.items (visited.back ∙ pushed)
          (sym c.visit.new.pids.ok.0) c.pop.ensures.cases;
      machine = visited.machine ∙ before.machine;
    }

pub returns-clause-all : goal.returns-clause-all
returns-clause-all g t c = λ all.
    let s = plan_of c.args.script.now in
    let boot = g.B.Boot.state c.args.machine.now s in
    let ready = c.deref-one-items.result.now in
    let end = c.loop-one.invariant in
    knows_behind boot s c.loop-one.self.found.outcomes.items c.args.pids.now.items ready (end.leads all)
    (subst (λ (ps : List Ready). EachKnown boot s c.loop-one.self.found.outcomes.items c.args.pids.now.items ps)
    (take_all c.loop-one.one-index ready c.loop-one-test.false) (end.each all))

pub returns-clause-walk : goal.returns-clause-walk
returns-clause-walk g t c =
    subst (λ (b : State). IsWalk b (plan_of c.args.script.now) c.loop-one.self) c.loop-one.invariant.machine c.loop-one.invariant.walk
