use Rattle.std.proofs.Common.{take}
use Rattle.std.specs.Fmt.{HasWritten, IsPlainFormatter}
use Rattle.ux_audit.specs.Text.{further_text}
use Rattle.ux_audit.proofs.text.FurtherDisplay.fmt.Given as goal

abbrev pub invariant-loop-link : goal.invariant-loop-link
invariant-loop-link g l =
    IsPlainFormatter l.initial.f → HasWritten g.W.Write.write_str_gives l.initial.f (further_text (take l.link-index l.link-items)) l.f
