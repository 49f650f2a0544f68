use Rattle.std.proofs.Common.{[], refl}
use Rattle.ux_script.proofs.Traces.{appends_none}
use Rattle.ux_script.proofs.JsonTexts.{wrote_more, wrote_all}
use Rattle.ux_script.proofs.json_lines.write_calls.Goals as goal

pub loop-place-init : goal.loop-place-init
loop-place-init g c = ([], refl, appends_none _)

pub loop-place-preserved : goal.loop-place-preserved
loop-place-preserved g c =
    let line = c.in_ok-write_call.ensures.ok in
    wrote_more _ _ _ c.args.lines.now c.args.history.now c.loop-place.place c.index-history-place.result line.0 c.loop-place-test.true
    c.index-history-place.is
    c.loop-place.invariant line.1 line.2

pub returns-clause-ok : goal.returns-clause-ok
returns-clause-ok g c = wrote_all _ _ c.args.lines.now c.args.history.now c.loop-place.place c.loop-place-test.false c.loop-place.invariant
