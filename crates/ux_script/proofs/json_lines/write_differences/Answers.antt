use Rattle.std.proofs.Common.{[], refl}
use Rattle.ux_script.proofs.Traces.{appends_none}
use Rattle.ux_script.proofs.JsonTexts.{compared_more, compared_all}
use Rattle.ux_script.proofs.json_lines.write_differences.Goals as goal

pub loop-one-init : goal.loop-one-init
loop-one-init g c = ([], refl, appends_none _)

pub loop-one-preserved : goal.loop-one-preserved
loop-one-preserved g c =
    let line = c.in_ok-write_difference.ensures.ok in
    compared_more _ _ _ c.args.lines.now c.args.history.now c.args.expected.now c.loop-one.one-index c.one-item.result line.0
    c.loop-one-test.true c.one-item.is
    c.loop-one.invariant (rw c.in_ok-got.ensures at line.1) line.2

pub returns-clause-ok : goal.returns-clause-ok
returns-clause-ok g c = compared_all _ _ c.args.lines.now c.args.history.now c.args.expected.now c.loop-one.one-index c.loop-one-test.false
    c.loop-one.invariant
