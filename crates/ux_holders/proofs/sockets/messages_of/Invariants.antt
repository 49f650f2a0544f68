use Rattle.std.proofs.Common.{◌≡◌, map, take}
use Rattle.ux_holders.specs.Listing.{message_row}
use Rattle.ux_holders.proofs.sockets.messages_of.Given as goal

abbrev pub invariant-loop-index : goal.invariant-loop-index
invariant-loop-index l = l.rows.items ≡ map message_row (take l.index l.socket.queue)
