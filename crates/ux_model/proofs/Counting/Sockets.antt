-- A change of one socket.
use Rattle.std.proofs.Common.{◌≡◌, ℕ, ◌+◌, ◌==◌, cond, List, [], ◌∷◌, drop, Option, Some, None, option_map, refl, arith}
use Rattle.std.specs.List.{slice_get}
use Rattle.std.proofs.lemmas.List.Sums.{sum_by-cons}
use Rattle.ux_model.specs.Socket.{Socket, Phase, idle, listening, connected, associated, pending_ends, peer_of, phase_with_pending}
use Rattle.ux_model.specs.Socket.{phase_with_association}
use Rattle.ux_model.specs.Description.{Description, Target, to_object, to_socket, changed, changed_target}
use Rattle.ux_model.specs.Accepting.{phase_without_first_end}
use Rattle.ux_model.specs.References.{times, socket_refs, target_refs, description_refs, refs}
use Rattle.ux_model.specs.Peers.{target_peer, peer_in, at_target, at_socket}
use Rattle.ux_model.specs.Moves.{SocketCounts}
use Rattle.ux_model.proofs.Lists.ChangedPlaces.{sum_by-changed}

target_change : (d : ℕ) (change : Socket → Socket) (more less : Socket → ℕ) →
    ((s : Socket) → socket_refs d (change s) + less s ≡ socket_refs d s + more s) →
    (t : Target) → target_refs d (changed_target change t) + at_target less t ≡ target_refs d t + at_target more t
target_change d change more less by (to_object o) = refl
target_change d change more less by (to_socket s) = by s

place_change : (d : ℕ) (change : Socket → Socket) (more less : Socket → ℕ) →
    ((s : Socket) → socket_refs d (change s) + less s ≡ socket_refs d s + more s) →
    (x : Option Description) → description_refs d (option_map (changed change) x) + at_socket less x ≡ description_refs d x + at_socket more
    x
place_change d change more less by None = refl
place_change d change more less by (Some D) = target_change d change more less by D.target

pub socket_counts : SocketCounts
unfolding refs
socket_counts S n d change more less by =
    let e = sum_by-changed (description_refs d) (changed change) (at_socket more) (at_socket less) (place_change d change more less by)
    S.descriptions n in
    omega (arith, e)

target_peer-changed : (change : Socket → Socket) → ((s : Socket) → peer_of (change s).phase ≡ peer_of s.phase) → (t : Target) →
    target_peer (changed_target change t) ≡ target_peer t
target_peer-changed change same (to_object o) = refl
target_peer-changed change same (to_socket s) = same s

pub peer_in-changed : (change : Socket → Socket) → ((s : Socket) → peer_of (change s).phase ≡ peer_of s.phase) → (x : Option Description) →
    peer_in (option_map (changed change) x) ≡ peer_in x
peer_in-changed change same None = refl
peer_in-changed change same (Some D) = target_peer-changed change same D.target

-- ---- ends that come to wait, or no longer do

pub peer_left : (p : Phase) → peer_of (phase_without_first_end p) ≡ peer_of p
peer_left idle = refl
peer_left (listening backlog cred) = refl
peer_left (connected peer) = refl
peer_left (associated target) = refl

pub peer_awaiting : (e : ℕ) (p : Phase) → peer_of (phase_with_pending e p) ≡ peer_of p
peer_awaiting e idle = refl
peer_awaiting e (listening backlog cred) = refl
peer_awaiting e (connected peer) = refl
peer_awaiting e (associated target) = refl

-- what an end that is taken off counts
abbrev pub end_count : ℕ → Option ℕ → ℕ
end_count k None = 0
end_count k (Some e) = cond (e == k) 1 0

ends_left : (k : ℕ) (xs : List ℕ) → times k (drop 1 xs) + end_count k (slice_get xs 0) ≡ times k xs
ends_left k [] = refl
ends_left k (x ∷ xs) = let a = sum_by-cons (λ n. cond {A = ℕ} (n == k) 1 0) x xs in omega (arith, a)

pub phase_left : (k : ℕ) (p : Phase) → times k (pending_ends (phase_without_first_end p)) + end_count k
    (slice_get (pending_ends p) 0) ≡ times k (pending_ends p)
phase_left k idle = refl
phase_left k (listening backlog cred) = ends_left k backlog.pending
phase_left k (connected peer) = refl
phase_left k (associated target) = refl

-- ---- associations, which are neither peers nor references

pub peer_associated : (target : Option ℕ) (p : Phase) → peer_of (phase_with_association target p) ≡ peer_of p
peer_associated None idle = refl
peer_associated (Some t) idle = refl
peer_associated target (listening backlog cred) = refl
peer_associated target (connected peer) = refl
peer_associated None (associated old) = refl
peer_associated (Some t) (associated old) = refl

pub ends_associated : (target : Option ℕ) (p : Phase) → pending_ends (phase_with_association target p) ≡ pending_ends p
ends_associated None idle = refl
ends_associated (Some t) idle = refl
ends_associated target (listening backlog cred) = refl
ends_associated target (connected peer) = refl
ends_associated None (associated old) = refl
ends_associated (Some t) (associated old) = refl
