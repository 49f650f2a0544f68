use Rattle.std.proofs.Common.{◌≡◌}
use Rattle.std.specs.List.{All}
use Rattle.ux_session.specs.Sessions.{is_asked, IsSound}
use Rattle.ux_session.specs.Going.{desk, WakesMore}
use Rattle.ux_session.proofs.waking.wake.Given as goal

abbrev pub invariant-loop-turn : goal.invariant-loop-turn
invariant-loop-turn g l = record {
  wakes : WakesMore (is_asked l.initial.order) (desk l.initial.serial l.initial.calls.items) l.initial.answered.items
      (desk l.serial l.calls.items) l.answered.items;
  sound : All (IsSound l.serial) l.calls.items;
  order : is_asked l.order ≡ is_asked l.initial.order;
}
