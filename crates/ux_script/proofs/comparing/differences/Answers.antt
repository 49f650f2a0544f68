use Rattle.ux_script.proofs.Answering.{more_differences, all_differences}
use Rattle.ux_script.proofs.comparing.differences.Goals as goal

pub loop-one-preserved : goal.loop-one-preserved
loop-one-preserved c =
    more_differences c.args.lines.now c.args.history.now c.args.expected.now c.loop-one.one-index c.one-item.result _ _ _
    c.loop-one.invariant c.loop-one-test.true c.one-item.is
    c.in_ok-got.ensures c.in_ok-add_difference.ensures

pub returns : goal.returns
returns c = all_differences c.args.lines.now c.args.history.now c.args.expected.now c.loop-one.one-index c.loop-one.text.items
    c.loop-one.invariant c.loop-one-test.false
