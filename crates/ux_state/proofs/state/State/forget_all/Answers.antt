use Rattle.ux_state.proofs.CountLaws.{forgotten_kept}
use Rattle.ux_state.proofs.state.State.forget_all.Goals as goal

pub invariant_of-self : goal.invariant_of-self
invariant_of-self g c =
    forgotten_kept _ _ _ _ _ _ _ _ _ _ _ _ _ c.self.invariant c.clear_tables.ensures c.forget.ensures.places c.forget.ensures.counts
    c.uncount_all.ensures c.unlink_all.ensures
    c.clear.ensures.names c.clear-2.ensures c.clear-3.ensures c.clear-4.ensures
