use Rattle.std.proofs.Common.{length}
use Rattle.ux_model.specs.Socket.{pending_ends}
use Rattle.ux_model.specs.References.{times}
use Rattle.ux_state.specs.Releases.{Left}
use Rattle.ux_state.proofs.references.release_pending.Given as goal

abbrev pub invariant-loop-end : goal.invariant-loop-end
invariant-loop-end l = Left (λ k. times k (pending_ends l.fn.socket.phase)) (λ k. times k (pending_ends l.socket.phase)) l.fn.slots l.slots

abbrev pub decreases-loop-end : goal.decreases-loop-end
decreases-loop-end l = length (pending_ends l.socket.phase)
