use Rattle.ux_model.specs.Types.{Mode}
use Rattle.ux_state.proofs.Added.{fresh_last}
use Rattle.ux_state.proofs.state.State.open_ends.Goals as goal

pub open_two-requires-clause-first : goal.open_two-requires-clause-first
open_two-requires-clause-first g c =
    fresh_last c.args.self.now c.add_object.new.self _ _ Mode.Read c.args.flags c.of_object-reader.result c.in_ok-add_object.ensures.ok
    c.object_count-number.ensures.count c.of_object-reader.ensures

pub open_two-requires-clause-second : goal.open_two-requires-clause-second
open_two-requires-clause-second g c =
    fresh_last c.args.self.now c.add_object.new.self _ _ Mode.Write c.args.flags c.of_object-writer.result c.in_ok-add_object.ensures.ok
    c.object_count-number.ensures.count c.of_object-writer.ensures
