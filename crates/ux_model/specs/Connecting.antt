-- A socket that listens (listen(2)), one that connects to it, and a datagram socket that is associated with another (connect(2)).
use Rattle.std.specs.Prelude.{ℕ, false, not, ◌||◌, nat_le, if◌then◌else◌, length, ℤ, Option, Some, None, Result, Ok, Err, is_none, is_some}
use Rattle.ux_model.specs.Types.{Errno, Fd, Cred, Addr, SockType, Mode, OpenFlags, Reply}
use Rattle.ux_model.specs.Places.{filled}
use Rattle.ux_model.specs.Names.{is_valid_addr, is_unnamed_addr}
use Rattle.ux_model.specs.Backlog.{Backlog, backlog_of}
use Rattle.ux_model.specs.Socket.{Socket, Phase, idle, listening, connected, associated, is_dgram, new_socket, pending_ends, peer_of}
use Rattle.ux_model.specs.Socket.{tied_socket, takes_from, awaiting, with_association, shut_down}
use Rattle.ux_model.specs.Description.{Description}
use Rattle.ux_model.specs.Process.{lowest_free, fd_of, descriptor, own_cred}
use Rattle.ux_model.specs.State.{State, socket_at, table_of, next_description, with_socket_by, with_table, with_new}
use Rattle.ux_model.specs.Outcome.{Outcome, refuse, answer, taking_memory, on_socket, as_process}
use Rattle.ux_model.specs.Pairing.{socket_description}
use Rattle.ux_model.specs.Binding.{look_up}

-- ---- making one

-- socket(2)
unfoldable pub make_socket : State → ℕ → SockType → OpenFlags → Outcome
make_socket S p kind flags = elim (lowest_free (table_of S p)) [
  | None ↦ refuse S Errno.EMFILE
  | Some n ↦ taking_memory (Reply.Fd (fd_of n))
      (with_table (with_new S (socket_description flags (new_socket kind))) p
      (filled (table_of S p) n (descriptor flags (next_description S))))
]

-- ---- listening

-- what a socket keeps while it listens
pub record Listener : Type 0 where
  pub backlog : Backlog
  -- of the process that called listen
  pub cred : Cred

abbrev pub listener_of : Phase → Option Listener
listener_of idle = None
listener_of (listening backlog cred) = Some (record { backlog = backlog; cred = cred })
listener_of (connected peer) = None
listener_of (associated target) = None

-- it listens, with this backlog; the ends that wait already stay
abbrev pub with_listening : ℕ → Cred → Socket → Socket
with_listening limit cred s = record s { phase = listening (record { limit = limit; pending = pending_ends s.phase }) cred }

-- listen(2). Listening again replaces the backlog and the credentials, and drops no end that waits.
unfoldable pub listen : State → ℕ → Fd → ℤ → Outcome
listen S p fd backlog = as_process S p (λ P. on_socket S p fd (λ d s.
    if is_dgram s.kind then refuse S Errno.EOPNOTSUPP else
    if is_some (peer_of s.phase) then refuse S Errno.EINVAL else
    if is_unnamed_addr s.name then refuse S Errno.EDESTADDRREQ else
    answer Reply.Ok (with_socket_by S d (with_listening (backlog_of backlog) (own_cred p P)))))

-- ---- connecting

-- the end that a listener's side of a new connection gets: options off, the listener's name, not yet accepted
abbrev pub server_end : Socket → ℕ → Cred → Socket
server_end listener client cred =
    record (new_socket listener.kind) { phase = connected client; name = listener.name; peer_cred = Some cred; accepted = false }

abbrev pub no_open_flags : OpenFlags
no_open_flags = record { 0 = 0 }

-- connected to the socket with this number, whose process has these credentials
abbrev pub tied : ℕ → Cred → Socket → Socket
tied peer cred s = record s { phase = connected peer; peer_cred = Some cred }

-- a client that is connected to a listener, both by the numbers of their descriptions
pub record Connection : Type 0 where
  pub client : ℕ
  -- of its process
  pub client_cred : Cred
  pub listener : ℕ
  -- the listener, and the credentials of the process that called listen
  pub socket : Socket
  pub listener_cred : Cred

-- the client is connected to a new end, which waits at the listener
abbrev pub with_connection : State → Connection → State
with_connection S c =
    let e : ℕ = next_description S in
    let made : Description = socket_description no_open_flags (server_end c.socket c.client c.client_cred) in
    with_socket_by (with_new (with_socket_by S c.listener (awaiting e)) made) c.client (tied e c.listener_cred)

-- where a listener keeps this
abbrev pub connect_to_listener : State → ℕ → Cred → ℕ → Socket → Listener → Outcome
connect_to_listener S d cred l listener kept =
    if nat_le kept.backlog.limit (length kept.backlog.pending) then refuse S Errno.EAGAIN else
    taking_memory Reply.Ok
    (with_connection S (record { client = d; client_cred = cred; listener = l; socket = listener; listener_cred = kept.cred }))

-- a socket that doesn't listen refuses
abbrev pub connect_to : State → ℕ → Cred → ℕ → Socket → Outcome
connect_to S d cred l other = elim (listener_of other.phase) [
  | None ↦ refuse S Errno.ECONNREFUSED
  | Some kept ↦ connect_to_listener S d cred l other kept
]

-- by the socket of this type that an address leads to
abbrev pub connect_by : State → ℕ → SockType → Addr → Cred → Outcome
connect_by S d kind addr cred = elim (look_up S kind addr) [ Err e ↦ refuse S e | Ok found ↦ connect_to S d cred found.0 found.1 ]

-- a stream or seqpacket socket
abbrev pub connect_stream : State → ℕ → Socket → Addr → Cred → Outcome
connect_stream S d s addr cred =
    if not (is_valid_addr addr) || is_unnamed_addr addr || is_some (listener_of s.phase) then refuse S Errno.EINVAL else
    if is_some (peer_of s.phase) then refuse S Errno.EISCONN else
    connect_by S d s.kind addr cred

-- ---- associating

-- datagram socket d with a target, which may take messages from another alone
abbrev pub associate_with : State → ℕ → ℕ → Socket → Outcome
associate_with S d t target =
    if takes_from d target.phase then answer Reply.Ok (with_socket_by S d (with_association (Some t))) else refuse S Errno.EPERM

-- with the socket of this type that an address leads to
abbrev pub associate_by : State → ℕ → SockType → Addr → Outcome
associate_by S d kind addr = elim (look_up S kind addr) [ Err e ↦ refuse S e | Ok found ↦ associate_with S d found.0 found.1 ]

-- A datagram socket sends to the target by default, and takes from there alone; the unnamed address ends that. What is queued stays.
abbrev pub connect_datagram : State → ℕ → SockType → Addr → Outcome
connect_datagram S d kind addr =
    if not (is_valid_addr addr) then refuse S Errno.EINVAL else
    if is_unnamed_addr addr then answer Reply.Ok (with_socket_by S d (with_association None)) else
    associate_by S d kind addr

-- ---- connect(2)

unfoldable pub connect : State → ℕ → Fd → Addr → Outcome
connect S p fd addr = as_process S p (λ P. on_socket S p fd (λ d s.
    if is_dgram s.kind then connect_datagram S d s.kind addr else connect_stream S d s addr (own_cred p P)))

-- ---- who the peer is

-- the name of the socket with this number; ENOTCONN where it is gone
abbrev pub name_at : State → ℕ → Result Addr Errno
name_at S d = elim (socket_at S d) [ None ↦ Err Errno.ENOTCONN | Some s ↦ Ok s.name ]

-- the name of the socket that one is connected to or associated with; ENOTCONN where it is neither (getpeername(2))
abbrev pub peer_name : State → Phase → Result Addr Errno
peer_name S phase = elim (tied_socket phase) [ None ↦ Err Errno.ENOTCONN | Some peer ↦ name_at S peer ]

-- getpeername(2)
unfoldable pub get_peer_name : State → ℕ → Fd → Outcome
get_peer_name S p fd = on_socket S p fd (λ d s. elim (peer_name S s.phase) [
  | Err e ↦ refuse S e
  | Ok name ↦ taking_memory (Reply.Addr name) S
])

-- ---- shutting down

-- shutdown(2). What is queued stays.
unfoldable pub shutdown : State → ℕ → Fd → Mode → Outcome
shutdown S p fd how = on_socket S p fd (λ d s.
    if is_none (tied_socket s.phase) then refuse S Errno.ENOTCONN else
    answer Reply.Ok (with_socket_by S d (shut_down how)))
