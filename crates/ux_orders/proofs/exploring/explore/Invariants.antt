use Rattle.std.proofs.Common.{◌≡◌, ◌≤◌}
use Rattle.std.specs.List.{AllByRecursion}
use Rattle.ux_syntax.specs.Spelling.{plan_of}
use Rattle.ux_orders.specs.Outcomes.{IsRun, Cover}
use Rattle.ux_orders.proofs.exploring.explore.Given as goal

abbrev pub invariant-loop-run : goal.invariant-loop-run
invariant-loop-run g l =
    let s = plan_of l.script in
    let boot = g.B.Boot.state l.fn.machine s in
    record {
      runs : AllByRecursion (IsRun boot s) l.found.outcomes.items;
      covered : Cover boot s l.found.orders l.found.outcomes.items;
      few : l.found.orders ≤ l._run;
      machine : g.B.Boot.state l.machine s ≡ boot;
    }
