-- What the name of a socket leads to, and binding one (bind(2), unix(7)).
use Rattle.std.specs.Prelude.{ℕ, Bool, true, false, not, ◌||◌, if◌then◌else◌, [], ◌∷◌, ◌++◌, Some, None, Result, Ok, Err, is_some}
use Rattle.ux_model.specs.Types.{Errno, Fd, Name, Addr, SockType, Reply}
use Rattle.ux_model.specs.Names.{PathTarget, file, bound, named, is_valid_addr, is_unnamed_addr, free_name}
use Rattle.ux_model.specs.Socket.{Socket}
use Rattle.ux_model.specs.State.{State, socket_at, with_socket_by}
use Rattle.ux_model.specs.Outcome.{Outcome, refuse, taking_memory, on_socket}

-- ---- looking up

abbrev pub same_kind : SockType → SockType → Bool
same_kind SockType.Stream SockType.Stream = true
same_kind SockType.Dgram SockType.Dgram = true
same_kind SockType.Seq SockType.Seq = true
same_kind _ _ = false

-- the socket with this number; ECONNREFUSED where it is gone, EPROTOTYPE where it is of another type
abbrev pub socket_of_kind : State → SockType → ℕ → Result (ℕ × Socket) Errno
socket_of_kind S kind d = elim (socket_at S d) [
  | None ↦ Err Errno.ECONNREFUSED
  | Some s ↦ if same_kind kind s.kind then Ok (d, s) else Err Errno.EPROTOTYPE
]

-- what a path leads to; nobody listens at a file object
abbrev pub socket_of_target : State → SockType → PathTarget → Result (ℕ × Socket) Errno
socket_of_target S kind (file o) = Err Errno.ECONNREFUSED
socket_of_target S kind (bound d) = socket_of_kind S kind d

abbrev pub look_up_path : State → SockType → Name → Result (ℕ × Socket) Errno
look_up_path S kind name = elim (named name S.paths) [ None ↦ Err Errno.ENOENT | Some target ↦ socket_of_target S kind target ]

abbrev pub look_up_abstract : State → SockType → Name → Result (ℕ × Socket) Errno
look_up_abstract S kind name = elim (named name S.abstract_names) [ None ↦ Err Errno.ECONNREFUSED | Some d ↦ socket_of_kind S kind d ]

-- the socket that an address leads to, by the number of its description and by value
abbrev pub look_up : State → SockType → Addr → Result (ℕ × Socket) Errno
look_up S kind Addr.Unnamed = Err Errno.EINVAL
look_up S kind (Addr.Path name) = look_up_path S kind name
look_up S kind (Addr.Abstract name) = look_up_abstract S kind name

-- ---- binding

abbrev pub with_name : Addr → Socket → Socket
with_name name s = record s { name = name }

-- the socket with this number gets a path, or a name of the abstract namespace
abbrev pub with_path : State → ℕ → Name → State
with_path S d name = record (with_socket_by S d (with_name (Addr.Path name))) { paths = S.paths ++ (name, bound d) ∷ [] }

abbrev pub with_abstract : State → ℕ → Name → State
with_abstract S d name =
    record (with_socket_by S d (with_name (Addr.Abstract name))) { abstract_names = S.abstract_names ++ (name, d) ∷ [] }

abbrev pub bind_path : State → ℕ → Name → Outcome
bind_path S d name = if is_some (named name S.paths) then refuse S Errno.EADDRINUSE else taking_memory Reply.Ok (with_path S d name)

abbrev pub bind_abstract : State → ℕ → Name → Outcome
bind_abstract S d name =
    if is_some (named name S.abstract_names) then refuse S Errno.EADDRINUSE else taking_memory Reply.Ok (with_abstract S d name)

-- the lowest of the names that the layer gives by itself; ENOSPC where all are in use
abbrev pub autobind : State → ℕ → Outcome
autobind S d = elim (free_name S.abstract_names) [
  | None ↦ refuse S Errno.ENOSPC
  | Some name ↦ taking_memory Reply.Ok (with_abstract S d name)
]

abbrev pub bind_to : State → ℕ → Addr → Outcome
bind_to S d Addr.Unnamed = autobind S d
bind_to S d (Addr.Path name) = bind_path S d name
bind_to S d (Addr.Abstract name) = bind_abstract S d name

-- bind(2); the unnamed address asks for a name of the abstract namespace
unfoldable pub bind : State → ℕ → Fd → Addr → Outcome
bind S p fd addr = on_socket S p fd (λ d s.
    if not (is_unnamed_addr s.name) || not (is_valid_addr addr) then refuse S Errno.EINVAL else
    bind_to S d addr)

-- getsockname(2)
unfoldable pub get_sock_name : State → ℕ → Fd → Outcome
get_sock_name S p fd = on_socket S p fd (λ d s. taking_memory (Reply.Addr s.name) S)
