-- A worked example, evaluated: a peer goes and leaves what it sent, and a byte that it never read.
use Rattle.std.specs.Prelude.{◌≡◌, List, [], ◌∷◌, refl, codes}
use Rattle.ux_model.specs.Types.{Errno, SockType, Request, Reply, Entry}
use Rattle.ux_laws.proofs.Play.{computing, made, replies, one_process, pair_of, send, fd}

abbrev calls : List Entry
calls = made one_process 0 (
    (1, pair_of SockType.Stream) ∷
    (1, send 0 (codes "hi")) ∷
    (1, send 1 (codes "x")) ∷
    (1, Request.Close (fd 0)) ∷
    (1, Request.Write (fd 1) (codes "y")) ∷
    (1, Request.Read (fd 1) 8) ∷
    (1, Request.Read (fd 1) 8) ∷
    (1, Request.Read (fd 1) 8) ∷
    (1, Request.Read (fd 1) 8) ∷ [])

what_was_answered : replies calls
    ≡ Reply.Fds (fd 0) (fd 1) ∷ Reply.Count 2 ∷ Reply.Count 1 ∷ Reply.Ok ∷ Reply.Err Errno.EPIPE
    ∷ Reply.Bytes (codes "hi") ∷ Reply.Err Errno.ECONNRESET ∷ Reply.Bytes [] ∷ Reply.Bytes [] ∷ []
unfolding computing
what_was_answered = refl
