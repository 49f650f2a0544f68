use Rattle.std.proofs.Common.{rules}
use Rattle.ux_model.specs.Types.{PollFd}
use Rattle.ux_json.proofs.Asked.{asked_more}
use Rattle.ux_json.proofs.arguments.poll_fds_value.Goals as goal

abbrev none : PollFd
none = record { fd = record { 0 = 0 }; events = record { 0 = 0 } }

pub loop-asked-preserved : goal.loop-asked-preserved
loop-asked-preserved c =
    asked_more c.as_slice-asked-items.result.now c.loop-asked.asked-index none c.loop-asked.objects.items c.push.new.self.items _
    c.loop-asked-test.true c.loop-asked.invariant c.in_ok-asked_value.ensures c.in_ok-push.ensures.items
