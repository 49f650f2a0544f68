use Rattle.ux_orders.proofs.Crewing.{ReadyUpTo}
use Rattle.ux_orders.proofs.crew.Crew.ready.Given as goal

-- those up to here that ask for a call are among them
abbrev pub invariant-loop-number : goal.invariant-loop-number
invariant-loop-number g l = ReadyUpTo l.self.book l.self.lines l.number l.ready.items
