use Rattle.std.proofs.Common.{◌≡◌, ◌-◌, []}
use Rattle.ux_book.specs.Pasts.{fresh}
use Rattle.ux_book.proofs.book.deal.Given as goal

abbrev pub invariant-loop-pid : goal.invariant-loop-pid
invariant-loop-pid g l = (l.trail ≡ record { id = g.W.BookName.trail; entries = []; given = l.pid }) × (l.shares.items ≡ fresh (l.pid - 1))
