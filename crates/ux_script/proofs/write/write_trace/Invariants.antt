use Rattle.std.proofs.Common.{take}
use Rattle.std.specs.Io.KnownBytes.{Appends}
use Rattle.ux_trace.specs.Trace.{trace}
use Rattle.ux_script.proofs.write.write_trace.Given as goal

abbrev pub invariant-loop-number : goal.invariant-loop-number
invariant-loop-number g l = Appends (g.W.Write.contents l.fn.writer) (g.W.Write.contents l.writer) (trace (take l.number l.history))
