use Rattle.std.proofs.Common.{◌≡◌, map, take}
use Rattle.std.specs.Fmt.{HasWritten, IsPlainFormatter}
use Rattle.std.specs.List.{join_with_byte}
use denote.Text.{Utf8}
use denote.Shadow.{shadow}
use Rattle.ux_trace.specs.Trace.{set_names}
use Rattle.ux_trace.proofs.Texts.{separator_of}
use Rattle.ux_trace.proofs.words.SetNamesDisplay.fmt.Given as goal

abbrev pub invariant-loop-is_set : goal.invariant-loop-is_set
invariant-loop-is_set g l =
    let names = set_names (map (λ row. (row.0, row.1.now)) (take l.is_set-index l.is_set-items)) in
    shadow (Utf8 l.separator) × (l.separator ≡ separator_of 124 names)
    × (IsPlainFormatter l.initial.f → HasWritten g.W.Write.write_str_gives l.initial.f (join_with_byte 124 names) l.f)
