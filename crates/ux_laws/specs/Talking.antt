-- What a call offers to a socket and where it goes, and what it is given by one (sendmsg(2), recvmsg(2), read(2), write(2)).
use Rattle.std.specs.Prelude.{ℕ, Bool, false, ◌==◌, if◌then◌else◌, List, [], Option, Some, None, Ok, Err, Result}
use Rattle.ux_model.specs.Types.{Errno, Fd, Addr, Request, Reply}
use Rattle.ux_model.specs.Flags.{asks_peek}
use Rattle.ux_model.specs.Socket.{Socket, is_dgram, peer_of, association_of}
use Rattle.ux_model.specs.State.{State}
use Rattle.ux_model.specs.Binding.{look_up}
use Rattle.ux_model.specs.Outcome.{find_socket}

-- ---- a request and its reply

-- the descriptor that it sends or receives through
abbrev pub endpoint : Request → Option Fd
endpoint (Request.Read fd n) = Some fd
endpoint (Request.Write fd bytes) = Some fd
endpoint (Request.SendMsg fd addr bytes control flags) = Some fd
endpoint (Request.RecvMsg fd n space flags) = Some fd
endpoint _ = None

-- the bytes that a send or a write offers, and the address that it gives
abbrev pub offered_bytes : Request → List ℕ
offered_bytes (Request.Write fd bytes) = bytes
offered_bytes (Request.SendMsg fd addr bytes control flags) = bytes
offered_bytes _ = []

abbrev pub request_addr : Request → Option Addr
request_addr (Request.SendMsg fd addr bytes control flags) = addr
request_addr _ = None

-- a receive that leaves what it reports (MSG_PEEK)
abbrev pub is_peek : Request → Bool
is_peek (Request.RecvMsg fd n space flags) = asks_peek flags
is_peek _ = false

-- how many of the bytes were taken, by the answer
abbrev pub taken_count : Reply → ℕ
taken_count (Reply.Count n) = n
taken_count _ = 0

-- the bytes that a receive or a read was given
abbrev pub given_bytes : Reply → List ℕ
given_bytes (Reply.Bytes bytes) = bytes
given_bytes (Reply.Received flags count bytes control from) = bytes
given_bytes _ = []

-- ---- which socket

abbrev pub if_found : {X : Type 0} → Result X Errno → Option X
if_found (Err e) = None
if_found (Ok x) = Some x

-- the socket that a call of process p sends or receives through, by number and by value
abbrev pub socket_through : State → ℕ → Request → Option (ℕ × Socket)
socket_through S p request = elim (endpoint request) [ None ↦ None | Some fd ↦ if_found (find_socket S p fd) ]

-- where a send through a socket goes: of datagrams to the address given or to the associated socket, else to the peer
abbrev pub named_target : State → Socket → Option Addr → Option ℕ
named_target S s None = association_of s.phase
named_target S s (Some addr) = elim (if_found (look_up S s.kind addr)) [ None ↦ None | Some found ↦ Some found.0 ]

abbrev pub goes_to : State → Socket → Option Addr → Option ℕ
goes_to S s addr = if is_dgram s.kind then named_target S s addr else peer_of s.phase

abbrev pub destination : State → ℕ → Request → Option ℕ
destination S p request = elim (socket_through S p request) [ None ↦ None | Some found ↦ goes_to S found.1 (request_addr request) ]

abbrev pub is_number : ℕ → Option ℕ → Bool
is_number d None = false
is_number d (Some n) = n == d

abbrev pub is_first : ℕ → Option (ℕ × Socket) → Bool
is_first d None = false
is_first d (Some found) = found.0 == d

-- a call of process p sends to the socket with this number, or receives through it
abbrev pub sends_to : State → ℕ → ℕ → Request → Bool
sends_to S d p request = is_number d (destination S p request)

abbrev pub receives_through : State → ℕ → ℕ → Request → Bool
receives_through S d p request = is_first d (socket_through S p request)
