-- A receive at the socket of a description, where that may be gone.
use Rattle.std.specs.Prelude.{ℕ, Some, None}
use Rattle.ux_model.specs.Types.{Errno}
use Rattle.ux_model.specs.State.{State, socket_at, table_of}
use Rattle.ux_model.specs.Outcome.{Outcome, refuse}
use Rattle.ux_model.specs.Delivered.{Brought, nothing_brought, brought_from}
use Rattle.ux_model.specs.Receiving.{Incoming, receive, receive_nothing, read_socket}

abbrev pub receive_at : State → ℕ → ℕ → Incoming → Outcome
receive_at S p d asked = elim (socket_at S d) [ None ↦ refuse S Errno.EBADF | Some s ↦ receive S p d s asked ]

abbrev pub receive_nothing_at : State → ℕ → ℕ → Outcome
receive_nothing_at S d peer = elim (socket_at S d) [ None ↦ refuse S Errno.EBADF | Some s ↦ receive_nothing S d s peer ]

abbrev pub read_socket_at : State → ℕ → ℕ → ℕ → Outcome
read_socket_at S p d n = elim (socket_at S d) [ None ↦ refuse S Errno.EBADF | Some s ↦ read_socket S p d s n ]

-- what a receive brings a process there
abbrev pub brought_at : State → ℕ → ℕ → ℕ → ℕ → Brought
brought_at S p d n space = elim (socket_at S d) [ None ↦ nothing_brought | Some s ↦ brought_from s n space (table_of S p) s.queue ]
