use Rattle.std.proofs.Common.{◌≡◌, true, take}
use Rattle.ux_syntax.specs.Spelling.{plan_of}
use Rattle.ux_orders.specs.Walks.{IsWalk, Grows, Leads}
use Rattle.ux_orders.proofs.Walking.{EachKnown}
use Rattle.ux_orders.proofs.each.Walk.+visit.Given as goal

abbrev pub decreases-visit : goal.decreases-visit
decreases-visit g l = l.left

abbrev pub invariant-loop-one : goal.invariant-loop-one
invariant-loop-one g l =
    let s = plan_of l.script in
    let boot = g.B.Boot.state l.fn.machine s in
    record {
      walk : IsWalk (g.B.Boot.state l.machine s) s l.self;
      grows : Grows s l.fn.self l.self;
      leads : l.self.found.is_all ≡ true → Leads boot s l.self.found.outcomes.items l.fn.pids.items l.one-items;
      each : l.self.found.is_all ≡ true → EachKnown boot s l.self.found.outcomes.items l.fn.pids.items (take l.one-index l.one-items);
      back : l.pids.items ≡ l.fn.pids.items;
      machine : g.B.Boot.state l.machine s ≡ boot;
    }
