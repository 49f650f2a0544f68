-- A worked example, evaluated: a record without bytes, which a peek leaves and a read takes, a read that would wait, and then the end of
-- input, since the peer is shut down for writing.
use Rattle.std.specs.Prelude.{◌≡◌, List, [], ◌∷◌, None, refl, codes}
use Rattle.ux_model.specs.Types.{Errno, SockType, Mode, Request, Reply, Entry}
use Rattle.ux_laws.proofs.Play.{computing, made, replies, one_process, pair_of, send, peek, fd, flags}

abbrev calls : List Entry
calls = made one_process 0 (
    (1, pair_of SockType.Seq) ∷
    (1, send 0 []) ∷
    (1, peek 1 8) ∷
    (1, Request.Read (fd 1) 8) ∷
    (1, Request.Read (fd 1) 8) ∷
    (1, Request.Shutdown (fd 0) Mode.Write) ∷
    (1, send 0 (codes "x")) ∷
    (1, Request.Read (fd 1) 8) ∷ [])

-- the peek tells the end of a record (MSG_EOR)
what_was_answered : replies calls
    ≡ Reply.Fds (fd 0) (fd 1) ∷ Reply.Count 0 ∷ Reply.Received (flags 32) 0 [] [] None ∷ Reply.Bytes [] ∷ Reply.Err Errno.EAGAIN
    ∷ Reply.Ok ∷ Reply.Err Errno.EPIPE ∷ Reply.Bytes [] ∷ []
unfolding computing
what_was_answered = refl
