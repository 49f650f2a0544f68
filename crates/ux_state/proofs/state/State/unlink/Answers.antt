use Rattle.ux_state.proofs.Links.{link_counted, link_gone}
use Rattle.std.proofs.Common.{subst}
use Rattle.ux_state.specs.Settling.{LooksAgain}
use Rattle.ux_state.proofs.Settling.{settled_unlinked}
use Rattle.ux_state.proofs.TableCounts.{paths_kept}
use Rattle.ux_state.proofs.state.State.unlink.Goals as goal

pub unlink_target-requires : goal.unlink_target-requires
unlink_target-requires g c = link_counted _ _ _ _ c.self.invariant.linked c.unlink-target.ensures.target

pub invariant_of-self : goal.invariant_of-self
invariant_of-self g c =
    paths_kept _ _ _ _ _ _ _ c.self.invariant _ _ c.unlink_target.ensures.long
    (link_gone _ _ _ _ _ _ c.self.invariant.linked c.unlink-target.ensures.target c.unlink-target.ensures.names c.unlink_target.ensures)
    (settled_unlinked _ _ _ _ _ _ _ c.self.invariant.settled c.unlink_target.ensures
    (subst (λ o. LooksAgain o c.self.inside.settled c.look_again.new.settled) c.file_of.ensures c.look_again.ensures))
