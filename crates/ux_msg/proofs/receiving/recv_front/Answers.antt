use Rattle.std.proofs.Common.{rules}
use Rattle.ux_msg.proofs.Passing.{front_referenced}
use Rattle.ux_msg.proofs.receiving.recv_front.Goals as goal

pub deliver-requires-clause-held : goal.deliver-requires-clause-held
deliver-requires-clause-held g c =
    front_referenced c.args.state.now c.args.id c.args.asked.n c.in-Some.socket.now c.in_ok-front.front.rights (search rules) (search rules)
    (search rules)
