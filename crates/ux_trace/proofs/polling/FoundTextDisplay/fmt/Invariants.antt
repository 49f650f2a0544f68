use Rattle.std.proofs.Common.{take}
use Rattle.std.specs.Fmt.{HasWritten, IsPlainFormatter}
use Rattle.ux_trace.specs.Trace.{found_text}
use Rattle.ux_trace.proofs.polling.FoundTextDisplay.fmt.Given as goal

abbrev pub invariant-loop-found : goal.invariant-loop-found
invariant-loop-found g l =
    IsPlainFormatter l.initial.f → HasWritten g.W.Write.write_str_gives l.initial.f (found_text (take l.found-index l.found-items)) l.f
