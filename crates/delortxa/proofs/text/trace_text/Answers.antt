use Rattle.std.proofs.Common.{◌≡◌, ◌∙◌, ◌++◌, ℕ, List, ap}
use Rattle.std.specs.String.{string_bytes}
use Rattle.ux_trace.specs.Trace.{entry_line}
use Rattle.delortxa.proofs.Traces.{trace_more}
use Rattle.delortxa.proofs.text.trace_text.Goals as goal

pub loop-number-preserved : goal.loop-number-preserved
loop-number-preserved c =
    let told : c.as_str.result.now ≡ entry_line c.loop-number.number c.index-entries-number.result = c.as_str.ensures.value
    ∙ c.in_ok-line.ensures in
    c.in_ok-push_str.ensures.bytes
    ∙ ap (λ (t : List ℕ). string_bytes c.loop-number.text ++ t) told
    ∙ ap (λ (t : List ℕ). t ++ entry_line c.loop-number.number c.index-entries-number.result) c.loop-number.invariant
    ∙ trace_more c.args.entries.now c.loop-number.number c.index-entries-number.result c.loop-number-test.true c.index-entries-number.is
