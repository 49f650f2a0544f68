use Rattle.std.proofs.Common.{rules}
use Rattle.ux_msg.proofs.Found.{sent_gives}
use Rattle.ux_msg.proofs.sending.send_msg.Goals as goal

pub returns : goal.returns
returns g c =
    sent_gives c.args.state.now c.send_with.new.state c.args.pid.0 c.args.tag c.args.fd _ c.args.message.bytes.now
    c.args.message.control.now _ c.args.message.flags c.in-Ok.found.id _ c.in-Ok.found.socket.now c.send_with.result
    c.in-Ok.ensures (search rules) (search rules) c.send_with.ensures (search rules)
