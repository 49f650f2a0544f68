use Rattle.std.proofs.Common.{length, sym, subst, ap, refl, ◌∙◌, arith}
use Rattle.std.specs.Prelude.{IsSome}
use Rattle.ux_model.specs.State.{State, socket_at}
use Rattle.ux_model.specs.Flight.{of_user}
use Rattle.ux_slots.proofs.Bridges.{on_ok}
use Rattle.ux_state.specs.Flights.{flights_of}
use Rattle.ux_state.proofs.SocketMoves.{message_added, message_back, same_kept, on_err}
use Rattle.ux_state.proofs.state.State.send.Goals as goal

pub invariant_of-self : goal.invariant_of-self
invariant_of-self g c =
    same_kept _ _ _ _ _ _ _ c.self.invariant c.self.inside.descriptions refl (λ k. refl)
    (λ u. ap (λ fs. flights_of fs u) (on_err c.count_in.result c.count_in.ensures.err (sym c.if-is_err.ensures.value)))

pub invariant_of-self-in-Ok : goal.invariant_of-self-in-Ok
invariant_of-self-in-Ok g c =
    message_added _ _ _ _ _ _ _ c.self.invariant c.retain_all.new.slots c.push_message.new.slots c.args.id c.len.result _ _
    c.as_slice-2.ensures c.retain_all.ensures c.in-Ok.ensures.places c.in-Ok.ensures.counts
    (subst (λ (S : State). IsSome (socket_at S c.args.id)) (sym c.self.view_is) c.requires.socket) c.len.ensures
    (on_ok c.count_in.result c.count_in.ensures.ok c.if-is_err.ensures.negation)

pub invariant_of-self-in-Err : goal.invariant_of-self-in-Err
invariant_of-self-in-Err g c =
    message_back _ _ _ _ _ _ _ c.self.invariant c.retain_all.new.slots c.push_message.new.slots c.release_all.new.slots _ _
    (c.as_slice-in-Err.ensures ∙ c.in-Err.ensures.back ∙ sym c.as_slice-2.ensures) c.retain_all.ensures c.in-Err.ensures.err
    c.in-Err.ensures.counts c.release_all.ensures
    (λ u.
    let less = c.count_out.ensures u in
    let more = on_ok c.count_in.result c.count_in.ensures.ok c.if-is_err.ensures.negation u in
    let same = ap (of_user u c.args.draft.uid) (c.len-in-Err.ensures ∙ ap length c.in-Err.ensures.back ∙ sym c.len.ensures) in
    omega (arith, less, more, same))
