use Rattle.std.proofs.Common.{sym, ◌∙◌}
use Rattle.std.proofs.Output.{has_written_of_eq}
use Rattle.ux_trace.proofs.Texts.{closed_is}
use Rattle.ux_trace.proofs.entry.ClosedDisplay.fmt.Goals as goal

pub returns-clause-writes : goal.returns-clause-writes
returns-clause-writes g c = λ plain ok.
    has_written_of_eq _ _ _ _ _
    (closed_is c.parts.result.0.now c.parts.result.1.now c.args.self.now.0.now c.parts.ensures (sym c.is_empty.ensures ∙ c.if-is_empty.false))
    (c.write.ensures.writes plain ok)
