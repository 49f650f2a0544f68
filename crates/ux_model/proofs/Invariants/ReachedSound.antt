-- What comes of a state by the changes of a call dangles nowhere, if that state doesn't. One line a change.
use Rattle.std.proofs.Common.{◌≡◌, refl, sym, subst}
use Rattle.ux_model.specs.State.{State}
use Rattle.ux_model.specs.Peers.{Paired}
use Rattle.ux_model.proofs.Changes.Sound.{IsHeld, IsSound}
use Rattle.ux_model.proofs.Changes.Reaching.{May, Reaches, still, process_changed, process_forked, description_made, peers_made}
use Rattle.ux_model.proofs.Changes.Reaching.{connection_made, description_changed, object_changed, paths_taken, path_bound, name_bound}
use Rattle.ux_model.proofs.Changes.Reaching.{object_made, path_made, turned_off}
use Rattle.ux_model.proofs.Invariants.KeptSound.{process_held, child_held, made_sound, peers_sound, place_sound, object_held, paths_held}
use Rattle.ux_model.proofs.Invariants.KeptSound.{new_object_held, new_path_held, path_held, name_held, off_sound}
use Rattle.ux_model.proofs.Invariants.ConnectedSound.{connection_sound}

-- a change that leaves the descriptions as they are
same_peers : (S T : State) → IsSound S → IsHeld T → T.descriptions ≡ S.descriptions → IsSound T
same_peers S T sound held same = record { held = held; paired = subst Paired (sym same) sound.paired }

pub reached_sound : (S : State) (may : May) (T : State) → IsSound S → Reaches S may T → IsSound T
reached_sound S may T sound still = sound
reached_sound S may T sound (process_changed {T = U} i P Q r h names kept same) =
    let before = reached_sound S may U sound r in same_peers U _ before (process_held U i P Q before.held h (names sound)) refl
reached_sound S may T sound (process_forked {T = U} i P r h makes) =
    let before = reached_sound S may U sound r in same_peers U _ before (child_held U i P before.held h) refl
reached_sound S may T sound (object_made {T = U} body r makes) =
    let before = reached_sound S may U sound r in same_peers U _ before (new_object_held U body before.held) refl
reached_sound S may T sound (description_made {T = U} D r leads nothing bounds) =
    made_sound U D (reached_sound S may U sound r) (leads sound) nothing
reached_sound S may T sound (peers_made {T = U} D E r peers) = peers_sound U D E (reached_sound S may U sound r) peers
reached_sound S may T sound (connection_made {T = U} d l cred listener_cred s listener r client free there) =
    connection_sound U d l cred listener_cred s listener (reached_sound S may U sound r) client free there
reached_sound S may T sound (description_changed {T = U} d x r keeps) = place_sound U d x (reached_sound S may U sound r) (keeps sound)
reached_sound S may T sound (object_changed {T = U} o old new r h same told) =
    let before = reached_sound S may U sound r in same_peers U _ before (object_held U o old new before.held h same) refl
reached_sound S may T sound (paths_taken {T = U} keep r told) =
    let before = reached_sound S may U sound r in same_peers U _ before (paths_held U keep before.held) refl
reached_sound S may T sound (path_made {T = U} name o r there told) =
    let before = reached_sound S may U sound r in same_peers U _ before (new_path_held U name o before.held there) refl
reached_sound S may T sound (path_bound {T = U} name d r told) =
    let before = reached_sound S may U sound r in same_peers U _ before (path_held U name d before.held) refl
reached_sound S may T sound (name_bound {T = U} name d r shown told) =
    let before = reached_sound S may U sound r in same_peers U _ before (name_held U name d before.held shown) refl
reached_sound S may T sound (turned_off {T = U} r told more) = off_sound U (reached_sound S may U sound r)
