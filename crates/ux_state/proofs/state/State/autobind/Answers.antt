use Rattle.std.proofs.Common.{sym, subst, refl}
use Rattle.ux_model.specs.State.{State}
use Rattle.ux_state.specs.Moves.{IsUnnamedAt}
use Rattle.ux_state.proofs.Tying.{free_unnamed, abstract_given}
use Rattle.ux_state.proofs.state.State.autobind.Goals as goal

pub invariant_of-self-2 : goal.invariant_of-self-2
invariant_of-self-2 g c =
    abstract_given _ _ _ _ _ _ _ c.self.invariant c.set_name.new.slots _ c.args.id c.in_ok-name.name _ refl
    (subst (λ (S : State). IsUnnamedAt S c.args.id) (sym c.self.view_is) c.requires)
    (free_unnamed _ _ c.in_ok-name.ensures.lowest) c.in_ok-name.ensures.ok c.set_name.ensures.places c.set_name.ensures.counts
