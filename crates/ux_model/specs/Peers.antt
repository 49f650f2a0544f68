-- Connected sockets name one another, so whoever goes has one other to notify.
use Rattle.std.specs.Prelude.{◌≡◌, ℕ, true, ◌<◌, ◌==◌, if◌then◌else◌, List, length, map, Option, Some, None, is_some}
use Rattle.std.specs.List.{enumerate_from}
use Rattle.ux_model.specs.Places.{place, emptied, changed_place}
use Rattle.ux_model.specs.Socket.{Socket, peer_of, with_reset}
use Rattle.ux_model.specs.Description.{Description, Target, to_object, to_socket, socket_of, changed}
use Rattle.ux_model.specs.State.{State, description_at}
use Rattle.ux_model.specs.References.{target_refs}
use Rattle.ux_model.specs.Release.{resets_peer, place_after_loss}

abbrev pub target_peer : Target → Option ℕ
target_peer (to_object o) = None
target_peer (to_socket s) = peer_of s.phase

abbrev pub peer_in : Option Description → Option ℕ
peer_in None = None
peer_in (Some D) = target_peer D.target

pub record Paired (ds : List (Option Description)) : Type 0 where
  -- the peer of a description has that one as its own peer, while both are there
  pub returned : (i p : ℕ) → peer_in (place ds i) ≡ Some p → is_some (place ds p) ≡ true → peer_in (place ds p) ≡ Some i
  -- and was made
  pub known : (i p : ℕ) → peer_in (place ds i) ≡ Some p → p < length ds

-- whom the loss of this description resets
abbrev pub lost_peer : Description → Option ℕ
lost_peer D = if resets_peer (socket_of D.target) then target_peer D.target else None

-- one is notified that it was reset
abbrev pub with_peer_reset : Option ℕ → List (Option Description) → List (Option Description)
with_peer_reset None ds = ds
with_peer_reset (Some p) ds = changed_place ds p (changed (with_reset true))

-- a number of the socket that is there, or 0
abbrev pub at_target : (Socket → ℕ) → Target → ℕ
at_target f (to_object o) = 0
at_target f (to_socket s) = f s

abbrev pub at_socket : (Socket → ℕ) → Option Description → ℕ
at_socket f None = 0
at_socket f (Some D) = at_target f D.target

-- it refers to nothing, and has no peer
pub record HoldsNothing (D : Description) : Type 0 where
  pub refs : (d : ℕ) → ◌≡◌ {A = ℕ} (target_refs d D.target) 0
  pub peer : target_peer D.target ≡ None

-- where peers name one another, the loss of a description notifies one other at most
abbrev pub OneGoes : Type 0
OneGoes = (S : State) (d : ℕ) (D : Description) → Paired S.descriptions → description_at S d ≡ Some D →
    with_peer_reset (lost_peer D) (emptied S.descriptions d) ≡ map (place_after_loss (λ n. n == d) S) (enumerate_from 0 S.descriptions)
