use Rattle.ux_model.specs.Release.{Drops}
use Rattle.ux_model.proofs.Releasing.AnyOrder.{live_in}
use Rattle.ux_state.proofs.state.State.drop_unreferenced.Given as goal

abbrev pub invariant-loop-d : goal.invariant-loop-d
invariant-loop-d g l = Drops l.fn.self l.self

abbrev pub decreases-loop-d : goal.decreases-loop-d
decreases-loop-d g l = live_in l.self.descriptions
