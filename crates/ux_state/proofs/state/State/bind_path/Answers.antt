use Rattle.std.proofs.Common.{sym, subst}
use Rattle.ux_model.specs.State.{State}
use Rattle.ux_state.specs.Moves.{IsUnnamedAt}
use Rattle.ux_state.proofs.Tying.{not_some, path_given}
use Rattle.ux_state.proofs.state.State.bind_path.Goals as goal

pub invariant_of-self-2 : goal.invariant_of-self-2
invariant_of-self-2 g c =
    path_given _ _ _ _ _ _ _ c.self.invariant c.set_name.new.slots _ c.args.id c.in_ok-listed.listed c.in_ok-listed.shown
    (subst (λ (S : State). IsUnnamedAt S c.args.id) (sym c.self.view_is) c.requires)
    (not_some _ (λ some. absurd (cc (c.in_ok-bind.ensures.taken.1 some)))) c.in_ok-bind.ensures.ok c.set_name.ensures.places
    c.set_name.ensures.counts
