use Rattle.std.proofs.Common.{◌≡◌, ap, ◌∙◌}
use Rattle.std.specs.Prelude.{None, slice_index_or}
use Rattle.std.proofs.lemmas.Result.{err_from_is_err_and}
use Rattle.ux_trace.specs.Echoes.{echo_line}
use Rattle.ux_script.proofs.Traces.{appends_then}
use Rattle.ux_script.proofs.Echoing.{next_comes, echo_more, next_begun, next_unbegun}
use Rattle.ux_script.proofs.echo.write_echo.Goals as goal

pub returns-in_err-text-clause-err : goal.returns-in_err-text-clause-err
returns-in_err-text-clause-err g c =
    let begun = next_unbegun _ _ c.args.lines.now c.args.history.now c.loop-place.place c.index-history-place.result c.loop-place-test.true
    c.loop-place.invariant in
    let p = err_from_is_err_and c.from_residual.result c.from_residual.ensures.1 in
    rw p.1 begun

pub returns-in_err-put_all-clause-err : goal.returns-in_err-put_all-clause-err
returns-in_err-put_all-clause-err g c =
    let line = slice_index_or c.args.lines.now c.loop-place.place None in
    let written : c.as_bytes.result.now ≡ echo_line line c.index-history-place.result = c.as_bytes.ensures.value ∙ c.in_ok-text.ensures
    ∙ ap (λ n. echo_line n c.index-history-place.result) c.line_at.ensures in
    let next = next_comes c.args.lines.now c.args.history.now c.loop-place.place c.index-history-place.result _ c.loop-place-test.true
    c.index-history-place.is written in
    let begun = next_begun _ _ _ _ _ _ _ next c.loop-place.invariant c.in_err-put_all.ensures.err in
    let p = err_from_is_err_and c.from_residual-in_err-put_all.result c.from_residual-in_err-put_all.ensures.1 in
    rw p.1 begun

pub loop-place-preserved : goal.loop-place-preserved
loop-place-preserved g c =
    let line = slice_index_or c.args.lines.now c.loop-place.place None in
    let written : c.as_bytes.result.now ≡ echo_line line c.index-history-place.result = c.as_bytes.ensures.value ∙ c.in_ok-text.ensures
    ∙ ap (λ n. echo_line n c.index-history-place.result) c.line_at.ensures in
    let next = next_comes c.args.lines.now c.args.history.now c.loop-place.place c.index-history-place.result _ c.loop-place-test.true
    c.index-history-place.is written in
    appends_then _ _ _ _ _ _ c.loop-place.invariant c.in_ok-put_all.ensures.ok (echo_more _ _ _ _ next)
