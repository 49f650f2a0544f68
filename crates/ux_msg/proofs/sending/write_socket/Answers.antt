use Rattle.ux_msg.proofs.Passing.{written}
use Rattle.ux_msg.proofs.sending.write_socket.Goals as goal

pub returns : goal.returns
returns g c =
    written c.args.state.now c.send_from.new.state c.args.pid.0 c.args.tag c.args.id c.credentials-cred.result c.flight_limit-limit.result
    c.args.bytes.now c.new.result c.send_from.result
    c.new.ensures c.credentials-cred.ensures c.flight_limit-limit.ensures c.send_from.ensures
