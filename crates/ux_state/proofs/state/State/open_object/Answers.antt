use Rattle.std.proofs.Common.{arith}
use Rattle.ux_state.proofs.Opening.{fresh_file}
use Rattle.ux_state.proofs.state.State.open_object.Goals as goal

pub open_description-requires-clause-fresh : goal.open_description-requires-clause-fresh
open_description-requires-clause-fresh g c =
    fresh_file c.args.self.now c.args.object c.args.mode c.args.flags c.of_object.result c.of_object.ensures
    (omega (arith, c.if-object-object_count.true, c.object_count.ensures.count))
