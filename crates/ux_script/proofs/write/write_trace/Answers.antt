use Rattle.std.proofs.Common.{◌≡◌, ◌∙◌}
use Rattle.std.proofs.lemmas.Result.{err_from_is_err_and}
use Rattle.ux_trace.specs.Trace.{entry_line}
use Rattle.ux_script.proofs.Traces.{appends_then, trace_more, line_begun, line_unbegun}
use Rattle.ux_script.proofs.write.write_trace.Goals as goal

pub returns-in_err-text-clause-err : goal.returns-in_err-text-clause-err
returns-in_err-text-clause-err g c =
    let begun = line_unbegun _ _ c.args.history.now c.loop-number.number c.index-history-number.result c.loop-number-test.true
    c.index-history-number.is c.loop-number.invariant in
    let p = err_from_is_err_and c.from_residual.result c.from_residual.ensures.1 in
    rw p.1 begun

pub returns-in_err-put_all-clause-err : goal.returns-in_err-put_all-clause-err
returns-in_err-put_all-clause-err g c =
    let written : c.as_bytes.result.now ≡ entry_line c.loop-number.number c.index-history-number.result = c.as_bytes.ensures.value
    ∙ c.in_ok-text.ensures in
    let begun = line_begun _ _ _ c.args.history.now c.loop-number.number c.index-history-number.result _ c.loop-number-test.true
    c.index-history-number.is written c.loop-number.invariant c.in_err-put_all.ensures.err in
    let p = err_from_is_err_and c.from_residual-in_err-put_all.result c.from_residual-in_err-put_all.ensures.1 in
    rw p.1 begun

pub loop-number-preserved : goal.loop-number-preserved
loop-number-preserved g c =
    let written : c.as_bytes.result.now ≡ entry_line c.loop-number.number c.index-history-number.result = c.as_bytes.ensures.value
    ∙ c.in_ok-text.ensures in
    appends_then _ _ _ _ _ _ c.loop-number.invariant c.in_ok-put_all.ensures.ok
    (rw written (trace_more c.args.history.now c.loop-number.number c.index-history-number.result c.loop-number-test.true
    c.index-history-number.is))
