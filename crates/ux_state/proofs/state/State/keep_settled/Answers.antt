use Rattle.std.proofs.Common.{◌≡◌, ◌<◌, length, false, subst, sym}
use Rattle.ux_model.specs.Places.{place}
use Rattle.ux_model.specs.State.{State}
use Rattle.ux_model.specs.Release.{is_orphan}
use Rattle.ux_state.proofs.Orphans.{settled_then}
use Rattle.ux_state.proofs.Settling.{looked_kept}
use Rattle.ux_state.proofs.state.State.keep_settled.Goals as goal

pub invariant_of-self : goal.invariant_of-self
invariant_of-self g c =
    let state = c.self.invariant in
    let none = subst (λ (S : State). is_orphan S (c.args.o, place S.objects c.args.o) ≡ false) (sym c.self.view_is) c.requires.no_orphan in
    looked_kept _ _ _ _ c.args.o state c.put.ensures
    (settled_then _ _ _ c.args.o state.opened state.linked none)
