use Rattle.std.proofs.Common.{◌≡◌, ◌∙◌}
use Rattle.std.proofs.lemmas.Result.{err_from_is_err_and}
use Rattle.ux_trace.specs.Trace.{entry_line}
use Rattle.ux_script.proofs.Following.{prints_more, begins_line, begins_no_line}
use Rattle.ux_script.proofs.session.print_from.Goals as goal

pub loop-number-preserved : goal.loop-number-preserved
loop-number-preserved g c =
    let written : c.as_bytes.result.now ≡ entry_line c.loop-number.number c.index-entries-number.result = c.as_bytes.ensures.value
    ∙ c.in_ok-text.ensures in
    prints_more _ _ _ _ c.args.entries.now c.loop-number.number c.index-entries-number.result _ c.loop-number-test.true
    c.index-entries-number.is written c.loop-number.invariant c.in_ok-put_all.ensures.ok

pub returns-in_err-text-clause-begun : goal.returns-in_err-text-clause-begun
returns-in_err-text-clause-begun g c =
    let begun = begins_no_line _ _ _ c.args.entries.now c.loop-number.number c.index-entries-number.result c.loop-number-test.true
    c.index-entries-number.is c.loop-number.invariant in
    let p = err_from_is_err_and c.from_residual.result c.from_residual.ensures.1 in
    rw p.1 begun

pub returns-in_err-put_all-clause-begun : goal.returns-in_err-put_all-clause-begun
returns-in_err-put_all-clause-begun g c =
    let written : c.as_bytes.result.now ≡ entry_line c.loop-number.number c.index-entries-number.result = c.as_bytes.ensures.value
    ∙ c.in_ok-text.ensures in
    let begun = begins_line _ _ _ _ c.args.entries.now c.loop-number.number c.index-entries-number.result _ c.loop-number-test.true
    c.index-entries-number.is written c.loop-number.invariant c.in_err-put_all.ensures.err in
    let p = err_from_is_err_and c.from_residual-in_err-put_all.result c.from_residual-in_err-put_all.ensures.1 in
    rw p.1 begun
