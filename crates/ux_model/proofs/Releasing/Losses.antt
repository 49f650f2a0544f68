-- What stays of a description's parts, where some descriptions go.
use Rattle.std.proofs.Common.{ℕ, Bool, false, Some, None}
use Rattle.std.specs.Prelude.{◌&&◌}
use Rattle.ux_model.specs.Socket.{Phase, peer_of}
use Rattle.ux_model.specs.Description.{Description, Target, changed_target, changed}
use Rattle.ux_model.specs.State.{State, socket_at}
use Rattle.ux_model.specs.Release.{resets_peer, socket_after_loss}

-- whether a socket in this phase is reset
abbrev pub is_reset_by_loss : (ℕ → Bool) → State → Phase → Bool
is_reset_by_loss gone S phase = elim (peer_of phase) [ None ↦ false | Some peer ↦ gone peer && resets_peer (socket_at S peer) ]

abbrev pub target_after_loss : (ℕ → Bool) → State → Target → Target
target_after_loss gone S t = changed_target (socket_after_loss gone S) t

abbrev pub description_after_loss : (ℕ → Bool) → State → Description → Description
description_after_loss gone S D = changed (socket_after_loss gone S) D
