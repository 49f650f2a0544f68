use Rattle.std.proofs.Common.{◌≤◌, ◌+◌, ◌∙◌, subst, arith}
use Rattle.ux_model.specs.State.{State}
use Rattle.ux_syntax.specs.Spelling.{plan_of}
use Rattle.ux_orders.specs.Orders.{IsRunOf}
use Rattle.ux_orders.proofs.Walking.{taken}
use Rattle.ux_orders.proofs.exploring.explore.Goals as goal

pub returns-then-not-branch-clause-runs : goal.returns-then-not-branch-clause-runs
returns-then-not-branch-clause-runs g c =
    let s = plan_of c.args.script.now in
    let boot = g.B.Boot.state c.args.machine.now s in
    let ran = c.in_ok-ran.ran in
    let before = c.loop-run.invariant in
    let run = subst (λ (b : State). IsRunOf b s ran) (c.in_ok-kernel.ensures.state ∙ before.machine) c.in_ok-ran.ensures.runs in
    (taken boot s c.loop-run.found c.take.new.self ran run c.in_ok-take.ensures before.runs before.covered).0

pub returns-then-not-branch-clause-covered : goal.returns-then-not-branch-clause-covered
returns-then-not-branch-clause-covered g c =
    let s = plan_of c.args.script.now in
    let boot = g.B.Boot.state c.args.machine.now s in
    let ran = c.in_ok-ran.ran in
    let before = c.loop-run.invariant in
    let run = subst (λ (b : State). IsRunOf b s ran) (c.in_ok-kernel.ensures.state ∙ before.machine) c.in_ok-ran.ensures.runs in
    (taken boot s c.loop-run.found c.take.new.self ran run c.in_ok-take.ensures before.runs before.covered).1

pub returns-then-not-branch-clause-limit : goal.returns-then-not-branch-clause-limit
returns-then-not-branch-clause-limit g c =
    let s = plan_of c.args.script.now in
    let boot = g.B.Boot.state c.args.machine.now s in
    let ran = c.in_ok-ran.ran in
    let before = c.loop-run.invariant in
    let run = subst (λ (b : State). IsRunOf b s ran) (c.in_ok-kernel.ensures.state ∙ before.machine) c.in_ok-ran.ensures.runs in
    let more : c.take.new.self.orders ≤ c.loop-run.found.orders + 1 =
    (taken boot s c.loop-run.found c.take.new.self ran run c.in_ok-take.ensures before.runs before.covered).2 in
    let few = before.few in
    let within = c.loop-run-test.true in
    omega (arith, more, few, within)

pub loop-run-preserved : goal.loop-run-preserved
loop-run-preserved g c =
    let s = plan_of c.args.script.now in
    let boot = g.B.Boot.state c.args.machine.now s in
    let ran = c.in_ok-ran.ran in
    let before = c.loop-run.invariant in
    let run = subst (λ (b : State). IsRunOf b s ran) (c.in_ok-kernel.ensures.state ∙ before.machine) c.in_ok-ran.ensures.runs in
    let all = taken boot s c.loop-run.found c.take.new.self ran run c.in_ok-take.ensures before.runs before.covered in
    let more : c.take.new.self.orders ≤ c.loop-run.found.orders + 1 = all.2 in
    let few = before.few in
    record {
      runs = all.0;
      covered = all.1;
      few = omega (arith, more, few);
      machine = c.boot.ensures.same s ∙ before.machine;
    }
