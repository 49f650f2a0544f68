use Rattle.std.proofs.Common.{◌≡◌, take}
use Rattle.ux_orders.specs.Crews.{AreHeld}
use Rattle.ux_orders.proofs.crew.Crew.make_any.Given as goal

abbrev pub invariant-loop-one : goal.invariant-loop-one
invariant-loop-one g l = record {
  held : AreHeld l.fn.self (take l.one-index l.ready);
  kept : l.self ≡ l.fn.self;
}
