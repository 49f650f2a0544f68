use Rattle.std.proofs.Common.{arith, ◌≤◌}
use Rattle.ux_book.proofs.book.Book+W+O+Nothing.counting.Goals as goal

pub open-requires-clause-room : goal.open-requires-clause-room
open-requires-clause-room g c =
    let none = c.new.ensures in
    let count = c.process_count-count.ensures.count in
    let most : c.process_count-count.result ≤ 1024 = c.process_count-count.ensures.most in
    omega (arith, none, count, most)
