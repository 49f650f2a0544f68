use Rattle.std.proofs.Common.{take}
use Rattle.ux_script.proofs.JsonTexts.{Wrote}
use Rattle.ux_script.proofs.json_lines.write_calls.Given as goal

-- the calls before this one were written
abbrev pub invariant-loop-place : goal.invariant-loop-place
invariant-loop-place g l = Wrote (g.W.Write.contents l.fn.writer) (g.W.Write.contents l.writer) l.lines (take l.place l.history)
