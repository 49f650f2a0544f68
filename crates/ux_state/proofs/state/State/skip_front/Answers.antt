use Rattle.std.proofs.Common.{◌<◌, ap, sym, subst, length, arith}
use Rattle.std.specs.Prelude.{IsSomeAnd}
use Rattle.ux_model.specs.State.{State, socket_at}
use Rattle.ux_model.specs.References.{times}
use Rattle.ux_state.proofs.SocketMoves.{rights_counted, rights_flew, bytes_taken}
use Rattle.ux_state.proofs.state.State.skip_front.Goals as goal

pub release_all-requires : goal.release_all-requires
release_all-requires g c = λ k.
    let some = subst (λ (S : State). IsSomeAnd (socket_at S c.args.id) (λ s. 0 < length s.queue)) (sym c.self.view_is) c.requires.some in
    let a = rights_counted _ _ _ _ _ _ _ c.self.invariant c.skip_message-rights.new.slots c.args.id c.args.n c.skip_message-rights.result.0
    c.skip_message-rights.ensures.counts some c.skip_message-rights.ensures.rights k in
    let b = ap (times k) c.as_slice.ensures in
    omega (arith, a, b)

pub count_out_sent-requires : goal.count_out_sent-requires
count_out_sent-requires g c = λ u.
    let some = subst (λ (S : State). IsSomeAnd (socket_at S c.args.id) (λ s. 0 < length s.queue)) (sym c.self.view_is) c.requires.some in
    rights_flew _ _ _ _ _ _ _ c.self.invariant c.args.id c.args.n c.len.result c.skip_message-rights.result.1 c.skip_message-rights.result.0
    c.len.ensures some c.skip_message-rights.ensures.rights c.skip_message-rights.ensures.sender u

pub invariant_of-self : goal.invariant_of-self
invariant_of-self g c =
    let some = subst (λ (S : State). IsSomeAnd (socket_at S c.args.id) (λ s. 0 < length s.queue)) (sym c.self.view_is) c.requires.some in
    bytes_taken _ _ _ _ _ _ _ c.self.invariant c.skip_message-rights.new.slots c.release_all.new.slots c.args.id c.args.n c.len.result
    c.skip_message-rights.result.1 c.skip_message-rights.result.0 _ c.as_slice.ensures c.len.ensures c.skip_message-rights.ensures.counts
    some c.skip_message-rights.ensures.rights c.skip_message-rights.ensures.rest c.skip_message-rights.ensures.sender c.release_all.ensures
    c.count_out_sent.ensures
