-- Taking the oldest end that waits at a listener (accept(2)).
use Rattle.std.specs.Prelude.{ℕ, true, drop, if◌then◌else◌, Option, Some, None, is_none, slice_get}
use Rattle.ux_model.specs.Types.{Errno, Fd, Addr, OpenFlags, Reply}
use Rattle.ux_model.specs.Places.{filled}
use Rattle.ux_model.specs.Socket.{Socket, Phase, idle, listening, connected, associated, pending_ends, peer_of, is_dgram}
use Rattle.ux_model.specs.Description.{Description, changed}
use Rattle.ux_model.specs.Process.{lowest_free, fd_of, descriptor}
use Rattle.ux_model.specs.State.{State, socket_at, table_of, with_description_by, with_socket_by, with_table}
use Rattle.ux_model.specs.Outcome.{Outcome, refuse, taking_memory, on_socket}
use Rattle.ux_model.specs.Descriptors.{with_flags}
use Rattle.ux_model.specs.Connecting.{listener_of}

-- ---- the client

-- the present name of the socket with this number; of one that is gone, the unnamed address
abbrev pub present_name : State → ℕ → Addr
present_name S d = elim (socket_at S d) [ None ↦ Addr.Unnamed | Some s ↦ s.name ]

abbrev pub name_of_peer : State → Option ℕ → Addr
name_of_peer S None = Addr.Unnamed
name_of_peer S (Some peer) = present_name S peer

-- the name that the client of a server's end has now
abbrev pub client_name : State → ℕ → Addr
client_name S e = elim (socket_at S e) [ None ↦ Addr.Unnamed | Some s ↦ name_of_peer S (peer_of s.phase) ]

-- ---- the end

abbrev pub as_accepted : Socket → Socket
as_accepted s = record s { accepted = true }

-- its description was accepted, with the flags of the call
abbrev pub accepted_with : OpenFlags → Description → Description
accepted_with flags D = with_flags flags (changed as_accepted D)

-- ---- the listener

abbrev pub phase_without_first_end : Phase → Phase
phase_without_first_end idle = idle
phase_without_first_end (listening backlog cred) = listening (record backlog { pending = drop 1 backlog.pending }) cred
phase_without_first_end (connected peer) = connected peer
phase_without_first_end (associated target) = associated target

-- the oldest of the ends that wait no longer does
abbrev pub without_first_end : Socket → Socket
without_first_end s = record s { phase = phase_without_first_end s.phase }

-- an end that is accepted: the process and its number that get it, and the flags of the call
pub record Acceptance : Type 0 where
  pub process : ℕ
  pub number : ℕ
  pub flags : OpenFlags
  -- by the numbers of their descriptions: the listener, and the end, which is the oldest that waits there
  pub listener : ℕ
  pub oldest : ℕ

abbrev pub with_accepted : State → Acceptance → State
with_accepted S a =
    let opened : State = with_table S a.process (filled (table_of S a.process) a.number (descriptor a.flags a.oldest)) in
    with_description_by (with_socket_by opened a.listener without_first_end) a.oldest (accepted_with a.flags)

-- ---- the call

-- of those that wait, the oldest
abbrev pub accept_first : State → ℕ → ℕ → ℕ → OpenFlags → Option ℕ → Outcome
accept_first S p n d flags None = refuse S Errno.EAGAIN
accept_first S p n d flags (Some e) =
    taking_memory (Reply.Accepted (fd_of n) (client_name S e))
    (with_accepted S (record { process = p; number = n; flags = flags; listener = d; oldest = e }))

-- accept4(2). Where no number is free, the end waits on.
unfoldable pub accept : State → ℕ → Fd → OpenFlags → Outcome
accept S p fd flags = on_socket S p fd (λ d s.
    if is_dgram s.kind then refuse S Errno.EOPNOTSUPP else
    if is_none (listener_of s.phase) then refuse S Errno.EINVAL else
    elim (lowest_free (table_of S p)) [
      | None ↦ refuse S Errno.EMFILE
      | Some n ↦ accept_first S p n d flags (slice_get (pending_ends s.phase) 0)
    ])
