use Rattle.std.proofs.Common.{◌≡◌, take}
use Rattle.ux_holders.proofs.sockets.ends_of.Given as goal

abbrev pub invariant-loop-index : goal.invariant-loop-index
invariant-loop-index l = l.ends.items ≡ take l.index l.backlog.pending
