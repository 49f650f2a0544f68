use Rattle.std.proofs.Common.{◌≡◌, map, take}
use Rattle.std.specs.Fmt.{HasWritten, IsPlainFormatter}
use Rattle.std.specs.List.{join_with_byte}
use denote.Text.{Utf8}
use denote.Shadow.{shadow}
use Rattle.ux_trace.specs.Echoes.{asked_text}
use Rattle.ux_trace.proofs.Texts.{separator_of}
use Rattle.ux_trace.proofs.polling.PollFdsTextDisplay.fmt.Given as goal

abbrev pub invariant-loop-asked : goal.invariant-loop-asked
invariant-loop-asked g l =
    let texts = map asked_text (take l.asked-index l.asked-items) in
    shadow (Utf8 l.separator) × (l.separator ≡ separator_of 44 texts)
    × (IsPlainFormatter l.initial.f → HasWritten g.W.Write.write_str_gives l.initial.f (join_with_byte 44 texts) l.f)
