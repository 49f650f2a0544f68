use Rattle.ux_msg.proofs.Found.{read_gives}
use Rattle.ux_msg.proofs.receiving.read_socket.Goals as goal

pub returns : goal.returns
returns g c = read_gives c.args.state.now c.recv_at.new.state c.args.pid.0 c.args.id c.args.n c.bytes_alone.result c.in_ok-done.done.reply
    c.bytes_alone.ensures c.in_ok-done.ensures.gives
