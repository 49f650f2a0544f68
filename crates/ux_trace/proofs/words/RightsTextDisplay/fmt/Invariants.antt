use Rattle.std.proofs.Common.{◌≡◌, take}
use Rattle.std.specs.Fmt.{HasWritten, IsPlainFormatter}
use Rattle.std.specs.List.{join_with_byte}
use denote.Text.{Utf8}
use denote.Shadow.{shadow}
use Rattle.ux_trace.proofs.Texts.{separator_of, number_texts}
use Rattle.ux_trace.proofs.words.RightsTextDisplay.fmt.Given as goal

abbrev pub invariant-loop-fd : goal.invariant-loop-fd
invariant-loop-fd g l =
    let numbers = number_texts (λ fd. fd.0) (take l.fd-index l.fd-items) in
    shadow (Utf8 l.separator) × (l.separator ≡ separator_of 44 numbers)
    × (IsPlainFormatter l.initial.f → HasWritten g.W.Write.write_str_gives l.initial.f (join_with_byte 44 numbers) l.f)
