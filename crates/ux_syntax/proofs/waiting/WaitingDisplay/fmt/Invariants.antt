use Rattle.std.proofs.Common.{take}
use Rattle.std.specs.Fmt.{HasWritten, IsPlainFormatter}
use Rattle.ux_syntax.specs.WaitingPlaces.{further_places}
use Rattle.ux_syntax.proofs.waiting.WaitingDisplay.fmt.Given as goal

abbrev pub invariant-loop-further : goal.invariant-loop-further
invariant-loop-further g l =
    IsPlainFormatter l.initial.f → HasWritten g.W.Write.write_str_gives l.initial.f (further_places (take l.further-index l.rest)) l.f
