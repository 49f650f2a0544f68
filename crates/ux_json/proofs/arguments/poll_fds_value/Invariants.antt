use Rattle.std.proofs.Common.{◌≡◌, map, take}
use Rattle.serde_json.specs.View.{view}
use Rattle.ux_json.specs.Arguments.{AreAsked}
use Rattle.ux_json.proofs.arguments.poll_fds_value.Given as goal

abbrev pub invariant-loop-asked : goal.invariant-loop-asked
invariant-loop-asked l = AreAsked (take l.asked-index l.asked-items) (map view l.objects.items)
