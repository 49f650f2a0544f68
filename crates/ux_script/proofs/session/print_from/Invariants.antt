use Rattle.std.proofs.Common.{take}
use Rattle.ux_script.specs.Following.{Prints}
use Rattle.ux_script.proofs.session.print_from.Given as goal

-- the lines of the entries before this one were written
abbrev pub invariant-loop-number : goal.invariant-loop-number
invariant-loop-number g l = Prints (g.W.Write.contents l.fn.writer) (g.W.Write.contents l.writer) (take l.from l.entries)
    (take l.number l.entries)
