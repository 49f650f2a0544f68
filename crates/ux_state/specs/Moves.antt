-- What the moves of a state ask for, and changes of one description.
use Rattle.std.specs.Prelude.{◌≡◌, ℕ, ◌<◌, length, true, false, IsSome, IsSomeAnd, List, [], ◌∷◌, ◌++◌, Option, Some, is_some}
use Rattle.std.specs.Prelude.{option_and_then}
use Rattle.std.specs.Prelude.{slice_get}
use Rattle.ux_model.specs.Object.{View}
use Rattle.ux_model.specs.Names.{is_unnamed_addr}
use Rattle.ux_model.specs.Socket.{Socket, peer_of, pending_ends}
use Rattle.ux_model.specs.Connecting.{Listener, listener_of}
use Rattle.ux_model.specs.Description.{Description, object_of}
use Rattle.ux_model.specs.State.{State, socket_at}
use Rattle.ux_model.specs.References.{times, refs}
use Rattle.ux_model.specs.Peers.{HoldsNothing}

abbrev pub at_offset : ℕ → Description → Description
at_offset offset D = record D { offset = offset }

-- a socket has this number
abbrev pub IsSocketAt : State → ℕ → Type 0
IsSocketAt S d = IsSome (socket_at S d)

-- something refers to each of them
abbrev pub AreReferenced : State → List ℕ → Type 0
AreReferenced S numbers = (d : ℕ) → 0 < times d numbers → 0 < refs S d

-- with one more file object, which is seen so
abbrev pub with_object_more : State → View → State
with_object_more S view = record S { objects = S.objects ++ Some view ∷ [] }

-- a description refers to nothing yet, and the file object that it leads to, if it leads to one, was made
pub record CanBeAdded (S : State) (D : Description) : Type 0 where
  pub nothing : HoldsNothing D
  pub made : (o : ℕ) → object_of D.target ≡ Some o → o < length S.objects

-- the same, which proofs open by its name
unfoldable pub IsFresh : State → Description → Type 0
IsFresh S D = CanBeAdded S D

-- ---- sockets by name

-- a socket without a name has this number
abbrev pub IsUnnamedAt : State → ℕ → Type 0
IsUnnamedAt S d = IsSomeAnd (socket_at S d) (λ s. is_unnamed_addr s.name ≡ true)

-- ---- connections

-- a socket that isn't connected, and one that doesn't listen, or does
abbrev pub IsUnconnectedAt : State → ℕ → Type 0
IsUnconnectedAt S d = IsSomeAnd (socket_at S d) (λ s. is_some (peer_of s.phase) ≡ false)

abbrev pub IsNoListenerAt : State → ℕ → Type 0
IsNoListenerAt S d = IsSomeAnd (socket_at S d) (λ s. is_some (listener_of s.phase) ≡ false)

abbrev pub IsListenerAt : State → ℕ → Type 0
IsListenerAt S d = IsSomeAnd (socket_at S d) (λ s. is_some (listener_of s.phase) ≡ true)

-- a socket with this number listens, and this is so of it and of what it keeps
abbrev pub OnListener : State → ℕ → (Socket → Listener → Type 0) → Type 0
OnListener S d P = IsSomeAnd (socket_at S d) (λ s. IsSomeAnd (listener_of s.phase) (P s))

-- the oldest end that waits at the socket with this number
abbrev pub first_end : State → ℕ → Option ℕ
first_end S d = option_and_then (λ s. slice_get (pending_ends s.phase) 0) (socket_at S d)
