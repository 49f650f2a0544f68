use Rattle.std.proofs.Common.{◌≡◌}
use Rattle.ux_session.specs.Going.{WaitBetween}
use Rattle.ux_session.proofs.waking.try_between.Given as goal

abbrev pub invariant-loop-place : goal.invariant-loop-place
invariant-loop-place g l = record {
  same : l.serial ≡ l.initial.serial;
  waits : WaitBetween l.initial.serial l.calls l.from l.place;
}
