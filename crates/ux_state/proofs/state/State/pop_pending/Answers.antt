use Rattle.std.proofs.Common.{Some, None, refl, sym, arith}
use Rattle.ux_state.proofs.Tying.{end_counted, end_gone}
use Rattle.ux_state.proofs.state.State.pop_pending.Goals as goal

pub release_ref-requires : goal.release_ref-requires
release_ref-requires g c = end_counted _ _ _ _ _ _ _ c.self.invariant c.pop_first.new.slots c.args.id c.in-Some.end
    (sym c.in-Some.ensures.first) c.in-Some.ensures.counts

pub invariant_of-self : goal.invariant_of-self
invariant_of-self g c =
    end_gone _ _ _ _ _ _ _ c.self.invariant c.pop_first.new.slots c.release_ref.new.self c.args.id (Some c.in-Some.end)
    c.in-Some.ensures.first c.in-Some.ensures.places c.in-Some.ensures.counts
    (sym c.release_ref.ensures.counted.places) c.release_ref.ensures.counted.counts

pub invariant_of-self-in_default : goal.invariant_of-self-in_default
invariant_of-self-in_default g c =
    end_gone _ _ _ _ _ _ _ c.self.invariant c.pop_first.new.slots c.pop_first.new.slots c.args.id None c.in_default.ensures.first
    c.in_default.ensures.places c.in_default.ensures.counts
    refl (λ k. omega arith)
