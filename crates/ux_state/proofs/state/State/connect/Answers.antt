use Rattle.std.proofs.Common.{◌≡◌, ℕ, List, refl, ap, sym, subst, ◌∙◌}
use Rattle.ux_slots.specs.Held.{count_at}
use Rattle.ux_model.specs.State.{State}
use Rattle.ux_model.specs.Pairing.{socket_description}
use Rattle.ux_model.specs.Connecting.{server_end, no_open_flags}
use Rattle.ux_state.specs.Moves.{IsUnconnectedAt, IsNoListenerAt, IsListenerAt, OnListener}
use Rattle.ux_state.proofs.SocketMoves.{same_kept}
use Rattle.ux_state.proofs.Tying.{connection_kept, connection_made}
use Rattle.ux_state.proofs.state.State.connect.Goals as goal

pub invariant_of-self-2 : goal.invariant_of-self-2
invariant_of-self-2 g c =
    connection_kept _ _ _ _ _ _ _ c.self.invariant c.reserve.new.self c.push_pending.new.slots c.insert_reserved-id.new.self c.tie.new.slots
    c.args.client c.args.listener c.next_id-id.result c.args.cred c.in_ok-end.listener_cred _
    (subst (λ (S : State). IsUnconnectedAt S c.args.client) (sym c.self.view_is) c.requires.client)
    (subst (λ (S : State). IsNoListenerAt S c.args.client) (sym c.self.view_is) c.requires.no_listener)
    (subst (λ (S : State). IsListenerAt S c.args.listener) (sym c.self.view_is) c.requires.listener)
    (subst (λ (S : State). OnListener S c.args.listener
    (λ t kept. c.in_ok-end.end ≡ socket_description no_open_flags (server_end t c.args.client c.args.cred))) (sym c.self.view_is)
    c.in_ok-end.ensures.end)
    c.reserve.ensures.places c.reserve.ensures.counts c.next_id-id.ensures c.in_ok-push_pending.ensures.places
    c.in_ok-push_pending.ensures.counts c.insert_reserved-id.ensures.added
    c.tie.ensures.places c.tie.ensures.counts

pub returns-clause-ok : goal.returns-clause-ok
returns-clause-ok g c =
    connection_made _ c.args.self.now c.reserve.new.self c.push_pending.new.slots c.insert_reserved-id.new.self c.tie.new.slots
    c.args.client c.args.listener c.next_id-id.result c.args.cred c.in_ok-end.listener_cred _ c.self.view_is
    c.in_ok-end.ensures.end c.in_ok-end.ensures.cred c.reserve.ensures.places c.next_id-id.ensures c.in_ok-push_pending.ensures.places
    c.insert_reserved-id.ensures.added c.tie.ensures.places

pub invariant_of-self : goal.invariant_of-self
invariant_of-self g c =
    same_kept _ _ _ _ _ _ _ c.self.invariant c.reserve.new.self c.reserve.ensures.places
    (λ k. ap (λ (cs : List ℕ). count_at (record c.self.inside.descriptions { counts = cs }) k) c.reserve.ensures.counts) (λ u. refl)

pub invariant_of-self-in_err-push_pending : goal.invariant_of-self-in_err-push_pending
invariant_of-self-in_err-push_pending g c =
    same_kept _ _ _ _ _ _ _ c.self.invariant c.push_pending.new.slots (c.in_err-push_pending.ensures.err ∙ c.reserve.ensures.places)
    (λ k. ap (λ (cs : List ℕ). count_at (record c.self.inside.descriptions { counts = cs }) k)
    (c.in_err-push_pending.ensures.counts ∙ c.reserve.ensures.counts)) (λ u. refl)
