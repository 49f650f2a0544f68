use Rattle.std.proofs.Common.{◌≡◌, take}
use Rattle.ux_holders.proofs.sockets.targets_of.Given as goal

abbrev pub invariant-loop-right : goal.invariant-loop-right
invariant-loop-right l = l.targets.items ≡ take l.right-index l.rights
