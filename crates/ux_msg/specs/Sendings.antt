-- Why rights aren't sent; and a send from the socket of a description, where that may be gone.
use Rattle.std.specs.Prelude.{◌≡◌, ℕ, ◌<◌, not, if◌then◌else◌, List, length, Option, Some, None}
use Rattle.ux_model.specs.Types.{Errno, Refusal, Addr}
use Rattle.ux_model.specs.Message.{Message}
use Rattle.ux_model.specs.Socket.{Socket, takes_from}
use Rattle.ux_model.specs.Control.{Control}
use Rattle.ux_model.specs.Process.{Descriptor}
use Rattle.ux_model.specs.State.{State, socket_at}
use Rattle.ux_model.specs.Outcome.{Outcome, refuse, as_process}
use Rattle.ux_model.specs.Sending.{Sending, sending, descriptions_behind, enqueue, send_from, send_with, write_socket}

-- a number isn't open, or there was no memory for as many references as numbers
abbrev pub IsRefusedBehind : List (Option Descriptor) → List ℕ → Refusal → Type 0
IsRefusedBehind table numbers (Refusal.Answer e) = (e ≡ Errno.EBADF) × (descriptions_behind table numbers ≡ None)
IsRefusedBehind table numbers Refusal.NoMemory = 0 < length numbers

-- the last part of a datagram's send, from socket d to a target that was found
abbrev pub send_to_target : State → Option ℕ → ℕ → ℕ → Socket → Message → Outcome
send_to_target S limit d t target m =
    if not (takes_from d target.phase) then refuse S Errno.EPERM else
    if target.read_shut then refuse S Errno.EPIPE else
    enqueue S limit t target m

abbrev pub send_from_at : State → Option ℕ → ℕ → Option Addr → Message → Outcome
send_from_at S limit d addr m = elim (socket_at S d) [ None ↦ refuse S Errno.EBADF | Some s ↦ send_from S limit d s addr m ]

abbrev pub send_with_at : State → Sending → ℕ → Control → Outcome
send_with_at S msg d control = elim (socket_at S d) [ None ↦ refuse S Errno.EBADF | Some s ↦ send_with S msg d s control ]

abbrev pub write_socket_at : State → ℕ → ℕ → ℕ → List ℕ → Outcome
write_socket_at S p tag d bytes = elim (socket_at S d) [
  | None ↦ refuse S Errno.EBADF
  | Some s ↦ as_process S p (λ P. write_socket S (sending tag p P None bytes) d s)
]
