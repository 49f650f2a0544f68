-- getsockopt(2) and setsockopt(2) at the level SOL_SOCKET (socket(7), unix(7)).
use Rattle.std.specs.Prelude.{ℕ, Bool, true, false, not, ◌||◌, ◌&&◌, ◌==◌, nat_le, if◌then◌else◌, Option, Some, None, is_some}
use Rattle.ux_model.specs.Types.{Errno, Fd, Cred, SockType, SockOpt, Reply}
use Rattle.ux_model.specs.Names.{is_unnamed_addr, free_name}
use Rattle.ux_model.specs.Limits.{greatest_queue_limit}
use Rattle.ux_model.specs.Socket.{Socket, is_stream, tied_socket, with_reset, with_passcred, with_queue_limit}
use Rattle.ux_model.specs.State.{State, with_socket_by}
use Rattle.ux_model.specs.Outcome.{Outcome, refuse, answer, taking_memory, on_socket}
use Rattle.ux_model.specs.Binding.{with_abstract}
use Rattle.ux_model.specs.Connecting.{listener_of}

-- ---- getsockopt(2)

-- SOCK_STREAM, SOCK_DGRAM, SOCK_SEQPACKET
abbrev pub type_number : SockType → ℕ
type_number SockType.Stream = 1
type_number SockType.Dgram = 2
type_number SockType.Seq = 5

-- the number of ECONNRESET in this layer, which numbers its errors itself (SO_ERROR of socket(7))
abbrev pub econnreset_number : ℕ
econnreset_number = 20

-- that number, or 0 where no error is pending
abbrev pub pending_error : Socket → ℕ
pending_error s = if s.reset then econnreset_number else 0

-- of an option that is on or off
abbrev pub on_off : Bool → Reply
on_off on = Reply.Opt (if on then 1 else 0)

-- those of its peer, where some were recorded: of the process that called listen, connect or socketpair there
abbrev pub tell_cred : State → Option Cred → Outcome
tell_cred S None = refuse S Errno.ENOTCONN
tell_cred S (Some cred) = answer (Reply.Cred cred) S

-- the limit of a stream's own queue, in bytes; other queues have none that can be asked for
abbrev pub tell_queue_limit : State → Socket → Outcome
tell_queue_limit S s = if is_stream s.kind then answer (Reply.Opt s.queue_limit) S else refuse S Errno.EOPNOTSUPP

-- of the socket with this number. SO_ERROR clears what it reports.
abbrev pub tell_option : State → ℕ → Socket → SockOpt → Outcome
tell_option S d s SockOpt.Kind = answer (Reply.Opt (type_number s.kind)) S
tell_option S d s SockOpt.Error = answer (Reply.Opt (pending_error s)) (with_socket_by S d (with_reset false))
tell_option S d s SockOpt.PassCred = answer (on_off s.passcred) S
tell_option S d s SockOpt.PeerCred = tell_cred S s.peer_cred
tell_option S d s SockOpt.AcceptConn = answer (on_off (is_some (listener_of s.phase))) S
tell_option S d s SockOpt.QueueLimit = tell_queue_limit S s

unfoldable pub get_opt : State → ℕ → Fd → SockOpt → Outcome
get_opt S p fd opt = on_socket S p fd (λ d s. tell_option S d s opt)

-- ---- setsockopt(2)

abbrev pub set_passcred : State → ℕ → Bool → State
set_passcred S d on = with_socket_by S d (with_passcred on)

-- on, of a socket that gets the lowest free name of the abstract namespace first
abbrev pub pass_cred_named : State → ℕ → Outcome
pass_cred_named S d = elim (free_name S.abstract_names) [
  | None ↦ refuse S Errno.ENOSPC
  | Some name ↦ taking_memory Reply.Ok (set_passcred (with_abstract S d name) d true)
]

-- On, also where it was on. Whoever has neither a name nor a peer is bound to a name (unix(7), Autobind feature).
abbrev pub pass_cred_on : State → ℕ → Socket → Outcome
pass_cred_on S d s =
    if not (is_unnamed_addr s.name) || is_some (tied_socket s.phase) then answer Reply.Ok (set_passcred S d true) else
    pass_cred_named S d

-- a limit of a stream's own queue, which may be less than the bytes in it
abbrev pub may_limit : ℕ → Bool
may_limit value = nat_le 1 value && nat_le value greatest_queue_limit

abbrev pub limit_queue : State → ℕ → Socket → ℕ → Outcome
limit_queue S d s value =
    if not (is_stream s.kind) then refuse S Errno.EOPNOTSUPP else
    if not (may_limit value) then refuse S Errno.EINVAL else
    answer Reply.Ok (with_socket_by S d (with_queue_limit value))

-- SO_PASSCRED, of which 0 is off, and the limit of a queue can be set
abbrev pub change_option : State → ℕ → Socket → ℕ → SockOpt → Outcome
change_option S d s value SockOpt.Kind = refuse S Errno.EINVAL
change_option S d s value SockOpt.Error = refuse S Errno.EINVAL
change_option S d s value SockOpt.PassCred = if value == 0 then answer Reply.Ok (set_passcred S d false) else pass_cred_on S d s
change_option S d s value SockOpt.PeerCred = refuse S Errno.EINVAL
change_option S d s value SockOpt.AcceptConn = refuse S Errno.EINVAL
change_option S d s value SockOpt.QueueLimit = limit_queue S d s value

unfoldable pub set_opt : State → ℕ → Fd → SockOpt → ℕ → Outcome
set_opt S p fd opt value = on_socket S p fd (λ d s. change_option S d s value opt)
