use Rattle.std.proofs.Common.{List, subst}
use Rattle.ux_model.specs.Types.{Pid}
use Rattle.ux_syntax.specs.Spelling.{plan_of}
use Rattle.ux_orders.specs.Threads.{KnowsBehind}
use Rattle.ux_orders.proofs.Walking.{knows_all}
use Rattle.ux_orders.proofs.each.explore_each.Goals as goal

pub returns-clause-all : goal.returns-clause-all
returns-clause-all g c = λ all.
    let s = plan_of c.args.script.now in
    let boot = g.B.Boot.state c.args.machine.now s in
    let outcomes = c.visit.new.self.found.outcomes.items in
    knows_all boot s outcomes
    (subst (λ (pids : List Pid). KnowsBehind boot s outcomes pids) c.new-pids.ensures.items (c.in_ok-visit.ensures.all all))
