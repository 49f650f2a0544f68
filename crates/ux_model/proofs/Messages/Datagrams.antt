-- The parts of a datagram's send, by where it goes.
use Rattle.std.proofs.Common.{ℕ, not, if◌then◌else◌, Option, Some, None}
use Rattle.ux_model.specs.Types.{Errno, Addr, Reply}
use Rattle.ux_model.specs.Message.{Message}
use Rattle.ux_model.specs.Socket.{Socket, takes_from, with_association}
use Rattle.ux_model.specs.State.{State, socket_at, with_socket_by}
use Rattle.ux_model.specs.Outcome.{Outcome, refuse, answer}
use Rattle.ux_model.specs.Sending.{enqueue, on_target}

-- of socket d, to target t
abbrev pub send_to_target : State → Option ℕ → ℕ → ℕ → Socket → Message → Outcome
send_to_target S limit d t target m =
    if not (takes_from d target.phase) then refuse S Errno.EPERM else
    if target.read_shut then refuse S Errno.EPIPE else
    enqueue S limit t target m

-- where this is its association
abbrev pub send_by_association : State → Option ℕ → ℕ → Option ℕ → Message → Outcome
send_by_association S limit d tied m = elim tied [
  | None ↦ refuse S Errno.EDESTADDRREQ
  | Some t ↦ elim (socket_at S t) [
    | None ↦ answer (Reply.Err Errno.ECONNREFUSED) (with_socket_by S d (with_association None))
    | Some target ↦ send_to_target S limit d t target m
  ]
]

-- by an address, if one is given
abbrev pub send_by : State → Option ℕ → ℕ → Socket → Option Addr → Message → Outcome
send_by S limit d s addr m = on_target S d s addr (λ t target. send_to_target S limit d t target m)
