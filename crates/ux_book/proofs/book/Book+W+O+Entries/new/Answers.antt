use Rattle.std.proofs.Common.{arith}
use Rattle.ux_book.proofs.book.Book+W+O+Entries.new.Goals as goal

pub open-requires-clause-room : goal.open-requires-clause-room
open-requires-clause-room g c = let room = c.in-Ok.ensures.room in let count = c.process_count-count.ensures.count in
    omega (arith, room, count)
