use Rattle.ux_state.proofs.Added.{left_there, no_more_left}
use Rattle.ux_state.proofs.TableCounts.{objects_fewer}
use Rattle.ux_state.proofs.state.State.take_back.Goals as goal

pub invariant_of-self : goal.invariant_of-self
invariant_of-self g c =
    objects_fewer _ _ _ _ _ _ _ c.self.invariant c.pop-last.new.self.items (no_more_left _ _ _ c.pop-last.ensures.items)
    (left_there _ _ _ c.pop-last.ensures.items)
