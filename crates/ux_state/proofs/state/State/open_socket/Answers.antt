use Rattle.std.proofs.Common.{ap, ◌∙◌}
use Rattle.ux_model.specs.Pairing.{socket_description}
use Rattle.ux_state.proofs.Opening.{fresh_socket}
use Rattle.ux_state.proofs.state.State.open_socket.Goals as goal

pub open_description-requires-clause-fresh : goal.open_description-requires-clause-fresh
open_description-requires-clause-fresh g c =
    fresh_socket c.args.self.now c.args.kind c.args.flags c.of_socket.result
    (c.of_socket.ensures ∙ ap (socket_description c.args.flags) c.new.ensures)
