-- Worked examples, evaluated: a send to a full queue, until its limit is raised, and until the peer is shut down for reading; a connect
-- to a full backlog, until a listen with a larger one.
use Rattle.std.specs.Prelude.{◌≡◌, pos, List, [], ◌∷◌, refl, codes}
use Rattle.ux_model.specs.Types.{Errno, Addr, SockType, SockOpt, Mode, Request, Reply, Entry}
use Rattle.ux_model.specs.Binding.{bind}
use Rattle.ux_model.specs.Connecting.{make_socket, listen, connect}
use Rattle.ux_laws.proofs.Play.{computing, made, replies, one_process, pair_of, send, fd}

abbrev filling : List Entry
filling = made one_process 0 (
    (1, pair_of SockType.Stream) ∷
    (1, Request.SetOpt (fd 1) SockOpt.QueueLimit 2) ∷
    (1, send 0 (codes "ab")) ∷
    (1, send 0 (codes "c")) ∷
    (1, Request.SetOpt (fd 1) SockOpt.QueueLimit 3) ∷
    (1, send 0 (codes "c")) ∷
    (1, send 0 (codes "d")) ∷
    (1, Request.Shutdown (fd 1) Mode.Read) ∷
    (1, send 0 (codes "d")) ∷ [])

room_comes : replies filling ≡ Reply.Fds (fd 0) (fd 1) ∷ Reply.Ok ∷ Reply.Count 2 ∷ Reply.Err Errno.EAGAIN ∷ Reply.Ok ∷ Reply.Count 1
    ∷ Reply.Err Errno.EAGAIN ∷ Reply.Ok ∷ Reply.Err Errno.EPIPE ∷ []
unfolding computing
room_comes = refl

abbrev crowding : List Entry
crowding = made one_process 0 (
    (1, Request.Socket SockType.Seq (record { 0 = 0 })) ∷
    (1, Request.Bind (fd 0) (Addr.Abstract (codes "door"))) ∷
    (1, Request.Listen (fd 0) (pos 1)) ∷
    (1, Request.Socket SockType.Seq (record { 0 = 0 })) ∷
    (1, Request.Connect (fd 1) (Addr.Abstract (codes "door"))) ∷
    (1, Request.Socket SockType.Seq (record { 0 = 0 })) ∷
    (1, Request.Connect (fd 2) (Addr.Abstract (codes "door"))) ∷
    (1, Request.Listen (fd 0) (pos 2)) ∷
    (1, Request.Connect (fd 2) (Addr.Abstract (codes "door"))) ∷ [])

a_place_comes : replies crowding ≡ Reply.Fd (fd 0) ∷ Reply.Ok ∷ Reply.Ok ∷ Reply.Fd (fd 1) ∷ Reply.Ok ∷ Reply.Fd (fd 2)
    ∷ Reply.Err Errno.EAGAIN ∷ Reply.Ok ∷ Reply.Ok ∷ []
unfolding computing bind make_socket listen connect
a_place_comes = refl
