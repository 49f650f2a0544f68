-- Laws: poll(2) reports that a socket is ready exactly where a call needn't wait.
use Rattle.std.specs.Prelude.{◌≡◌, ◌↔◌, ℕ, Bool, true, false, ◌||◌, IsTrue, [], ◌∷◌, None, Ok, is_some}
use Rattle.ux_model.specs.Types.{Errno, Fd, Request, Reply}
use Rattle.ux_model.specs.Flags.{no_flags}
use Rattle.ux_model.specs.Socket.{Socket, is_dgram, peer_of}
use Rattle.ux_model.specs.State.{State, is_live}
use Rattle.ux_model.specs.Outcome.{find_socket}
use Rattle.ux_model.specs.Readiness.{socket_conditions}
use Rattle.ux_model.specs.Step.{outcome}

-- messages go to it and from it: a datagram socket, or one that is connected, also to one that is gone
abbrev pub moves_data : Socket → Bool
moves_data s = is_dgram s.kind || is_some (peer_of s.phase)

-- IN is missing exactly where a receive of one byte would wait
abbrev pub TellsInput : Type 0
TellsInput = (S : State) (p tag : ℕ) (fd : Fd) (d : ℕ) (s : Socket) → find_socket S p fd ≡ Ok (d, s) → moves_data s ≡ true →
    ((socket_conditions S d s).readable ≡ false) ↔ ((outcome S p tag (Request.RecvMsg fd 1 0 no_flags)).reply ≡ Reply.Err Errno.EAGAIN)

-- and OUT exactly where a send of one byte would, without address and control, by a process that lives
abbrev pub TellsRoom : Type 0
TellsRoom =
    (S : State) (p tag : ℕ) (fd : Fd) (byte d : ℕ) (s : Socket) → IsTrue (is_live S p) → find_socket S p fd ≡ Ok (d, s) →
    moves_data s ≡ true →
    ((socket_conditions S d s).writable ≡ false)
    ↔ ((outcome S p tag (Request.SendMsg fd None (byte ∷ []) [] no_flags)).reply ≡ Reply.Err Errno.EAGAIN)
