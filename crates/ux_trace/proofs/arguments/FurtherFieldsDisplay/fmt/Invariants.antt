use Rattle.std.proofs.Common.{take, map}
use Rattle.std.specs.Fmt.{HasWritten, IsPlainFormatter}
use Rattle.std.specs.List.{flat_map}
use Rattle.ux_fields.specs.Seen.{seen}
use Rattle.ux_trace.specs.Echoes.{after_comma, telling}
use Rattle.ux_trace.proofs.arguments.FurtherFieldsDisplay.fmt.Given as goal

abbrev pub invariant-loop-field : goal.invariant-loop-field
invariant-loop-field g l =
    let texts = map (λ field. telling l.self.read.now (seen field)) (take l.field-index l.field-items) in
    IsPlainFormatter l.initial.f → HasWritten g.W.Write.write_str_gives l.initial.f (flat_map after_comma texts) l.f
