use Rattle.std.proofs.Common.{take}
use Rattle.ux_script.proofs.JsonTexts.{Compared}
use Rattle.ux_script.proofs.json_lines.write_differences.Given as goal

-- what is expected before this was compared
abbrev pub invariant-loop-one : goal.invariant-loop-one
invariant-loop-one g l = Compared (g.W.Write.contents l.fn.writer) (g.W.Write.contents l.writer) l.lines l.history
    (take l.one-index l.expected)
