use Rattle.std.proofs.Common.{map, rules, ap, ◌∙◌}
use Rattle.ux_trace.specs.Echoes.{telling}
use Rattle.ux_trace.proofs.Telling.{each_told}
use Rattle.ux_trace.proofs.arguments.CallTextDisplay.fmt.Goals as goal

pub returns-clause-writes : goal.returns-clause-writes
returns-clause-writes g c =
    let told = each_told c.args.self.now.read.now c.as_slice.result.now in
    let fields = ap (map (telling c.args.self.now.read.now)) (ap (map _) c.as_slice.ensures ∙ c.fields_of-fields.ensures) in
    rw (← told ∙ fields) (search rules)
