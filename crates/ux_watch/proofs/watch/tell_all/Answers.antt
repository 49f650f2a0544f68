use Rattle.std.proofs.Common.{arith}
use Rattle.ux_watch.proofs.Changing.{told_all, all_rises}
use Rattle.ux_watch.proofs.watch.tell_all.Goals as goal

pub returns-clause-told : goal.returns-clause-told
returns-clause-told g c = told_all c.args.state.now c.in_ok-ids.ids.items c.loop-i.all.items c.loop-i.i c.in_ok-ids.ensures
    c.loop-i.invariant (omega (arith, c.loop-i-test.false, c.len-i-end.ensures))

pub returns-clause-rising : goal.returns-clause-rising
returns-clause-rising g c = all_rises c.args.state.now c.in_ok-ids.ids.items c.loop-i.all.items c.loop-i.i c.in_ok-ids.ensures
    c.loop-i.invariant (omega (arith, c.loop-i-test.false, c.len-i-end.ensures))
