use Rattle.std.proofs.Common.{◌≡◌, map, take}
use Rattle.ux_watch.specs.Changing.{change_of}
use Rattle.ux_watch.proofs.watch.tell_all.Given as goal

abbrev pub invariant-loop-i : goal.invariant-loop-i
invariant-loop-i g l = l.all.items ≡ map (change_of l.state) (take l.i l.ids.items)
