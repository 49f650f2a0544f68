-- How many bytes wait to be read (ioctl(2), FIONREAD, which SIOCINQ is of a socket), and how many the peer hasn't received (SIOCOUTQ).
use Rattle.std.specs.Prelude.{ℕ, if◌then◌else◌, List, [], ◌∷◌, length, Option, Some, None, is_some}
use Rattle.ux_model.specs.Types.{Errno, Fd, Reply}
use Rattle.ux_model.specs.Object.{bytes_ahead}
use Rattle.ux_model.specs.Message.{Message, queued_bytes}
use Rattle.ux_model.specs.Socket.{Socket, is_dgram, peer_of}
use Rattle.ux_model.specs.Description.{to_object, to_socket}
use Rattle.ux_model.specs.State.{State, socket_at}
use Rattle.ux_model.specs.Outcome.{Outcome, refuse, answer, on_descriptor}
use Rattle.ux_model.specs.FileObjects.{on_object}
use Rattle.ux_model.specs.Connecting.{listener_of}

-- ---- to be read here

-- of the oldest datagram, which a receive takes whole; 0 where none waits
abbrev pub next_length : List Message → ℕ
next_length [] = 0
next_length (m ∷ rest) = length m.bytes

abbrev pub waiting_bytes : Socket → ℕ
waiting_bytes s = if is_dgram s.kind then next_length s.queue else queued_bytes s.queue

-- at a listener ends wait for accept, and no bytes
abbrev pub socket_in_queue : State → Socket → Outcome
socket_in_queue S s = if is_some (listener_of s.phase) then refuse S Errno.EINVAL else answer (Reply.Count (waiting_bytes s)) S

abbrev pub object_in_queue : State → Option ℕ → Outcome
object_in_queue S None = refuse S Errno.ENOTTY
object_in_queue S (Some n) = answer (Reply.Count n) S

-- ioctl(2), FIONREAD, which SIOCINQ is of a socket
unfoldable pub in_queue : State → ℕ → Fd → Outcome
in_queue S p fd = on_descriptor S p fd (λ e D. elim D.target [
  | to_object o ↦ on_object S o (λ view. object_in_queue S (bytes_ahead view.body D.offset))
  | to_socket s ↦ socket_in_queue S s
])

-- ---- to be read by the peer

-- nothing that a peer that is gone left unread will be received
abbrev pub unreceived : Option Socket → ℕ
unreceived None = 0
unreceived (Some other) = queued_bytes other.queue

abbrev pub sent_bytes : State → Option ℕ → ℕ
sent_bytes S None = 0
sent_bytes S (Some peer) = unreceived (socket_at S peer)

-- What a datagram socket has sent may wait in many queues, and isn't counted.
abbrev pub socket_out_queue : State → Socket → Outcome
socket_out_queue S s =
    if is_dgram s.kind then refuse S Errno.EOPNOTSUPP else answer (Reply.Count (sent_bytes S (peer_of s.phase))) S

-- ioctl(2), SIOCOUTQ
unfoldable pub out_queue : State → ℕ → Fd → Outcome
out_queue S p fd = on_descriptor S p fd (λ e D. elim D.target [ to_object o ↦ refuse S Errno.ENOTTY | to_socket s ↦ socket_out_queue S s ])
