use Rattle.std.proofs.Common.{rules}
use Rattle.delortxa.specs.Giving.{request_of}
use Rattle.delortxa.proofs.Giving.{goes_on}
use Rattle.delortxa.proofs.whole.give_all.Goals as goal

pub loop-left-preserved : goal.loop-left-preserved
loop-left-preserved g c =
    goes_on g.P.Calls.did g.P.Calls.unmade c.args.who (request_of c.args.way c.args.fd) c.args.bytes.now c.loop-left.left.now
    c.split_at.result.1.now
    c.args.caller.now c.loop-left.caller c.give.new.caller c.in-Ok.taken c.loop-left.invariant.0 c.loop-left.invariant.1
    c.in-Ok.ensures.made (search rules)
