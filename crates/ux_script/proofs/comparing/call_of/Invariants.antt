use Rattle.std.proofs.Common.{drop}
use Rattle.ux_script.proofs.Answering.{IsLeft}
use Rattle.ux_script.proofs.comparing.call_of.Given as goal

abbrev pub invariant-loop-entry : goal.invariant-loop-entry
invariant-loop-entry l = IsLeft l.line l.left (drop l.entry-index l.history) l.fn.lines l.history
