use Rattle.std.proofs.Common.{rules, sym, subst}
use Rattle.ux_model.specs.State.{State}
use Rattle.ux_state.specs.Moves.{IsUnconnectedAt}
use Rattle.ux_state.proofs.Tying.{listened, listening_made}
use Rattle.ux_state.proofs.state.State.listen.Goals as goal

pub invariant_of-self : goal.invariant_of-self
invariant_of-self g c =
    listened _ _ _ _ _ _ _ c.self.invariant c.start_listening.new.slots c.args.id _ c.args.cred
    (subst (λ (S : State). IsUnconnectedAt S c.args.id) (sym c.self.view_is) c.requires)
    c.start_listening.ensures.places c.start_listening.ensures.counts

pub returns : goal.returns
returns g c = listening_made _ c.args.self.now c.args.id _ _ c.args.cred _ c.self.view_is c.start_listening.ensures.places (search rules)
