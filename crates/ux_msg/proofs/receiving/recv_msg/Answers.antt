use Rattle.std.proofs.Common.{rules}
use Rattle.ux_msg.specs.Answers.{reply_of}
use Rattle.ux_msg.proofs.Found.{received_gives, received_delivered}
use Rattle.ux_msg.proofs.receiving.recv_msg.Goals as goal

pub returns-clause-gives : goal.returns-clause-gives
returns-clause-gives g c =
    received_gives c.args.state.now c.recv_at.new.state c.args.pid.0 c.args.fd c.args.asked.n c.args.asked.space c.args.asked.flags
    c.in-Ok.found.id _ c.in-Ok.found.socket.now (reply_of c.recv_at.result) c.in-Ok.ensures (search rules)
    c.recv_at.ensures.gives (search rules)

pub returns-clause-delivered : goal.returns-clause-delivered
returns-clause-delivered g c =
    received_delivered c.args.state.now c.args.pid.0 c.args.fd c.args.asked.n c.args.asked.space c.args.asked.flags c.in-Ok.found.id _
    c.in-Ok.found.socket.now c.recv_at.result c.in-Ok.ensures (search rules) c.recv_at.ensures.delivered
