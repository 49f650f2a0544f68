use Rattle.std.proofs.Common.{length}
use Rattle.ux_cmsg.specs.Found.{parts_view}
use Rattle.ux_cmsg.proofs.Collecting.{IsReadTo}
use Rattle.ux_cmsg.proofs.reading.read_items.Given as goal

abbrev pub invariant-loop-rest : goal.invariant-loop-rest
invariant-loop-rest l = IsReadTo l.bytes (parts_view l.parts) l.rest

abbrev pub decreases-loop-rest : goal.decreases-loop-rest
decreases-loop-rest l = length l.rest
