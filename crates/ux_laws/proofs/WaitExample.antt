-- Worked examples, evaluated: a receive that would wait, until something is sent, and until the peer is shut down; an accept, until one
-- connects; a send to a full
-- queue, until something is read from it; a connect to a full backlog, until an accept.
use Rattle.std.specs.Prelude.{◌≡◌, pos, List, [], ◌∷◌, refl, codes}
use Rattle.ux_model.specs.Types.{Errno, Addr, SockType, SockOpt, Mode, Request, Reply, Entry}
use Rattle.ux_model.specs.Binding.{bind}
use Rattle.ux_model.specs.Connecting.{make_socket, listen, connect}
use Rattle.ux_model.specs.Accepting.{accept}
use Rattle.ux_laws.proofs.Play.{computing, made, replies, one_process, pair_of, send, fd}

abbrev calls : List Entry
calls = made one_process 0 (
    (1, pair_of SockType.Stream) ∷
    (1, Request.Read (fd 1) 8) ∷
    (1, send 0 (codes "hi")) ∷
    (1, Request.Read (fd 1) 8) ∷
    (1, Request.Read (fd 1) 8) ∷
    (1, Request.Shutdown (fd 0) Mode.Write) ∷
    (1, Request.Read (fd 1) 8) ∷ [])

what_was_answered : replies calls
    ≡ Reply.Fds (fd 0) (fd 1) ∷ Reply.Err Errno.EAGAIN ∷ Reply.Count 2 ∷ Reply.Bytes (codes "hi") ∷ Reply.Err
    Errno.EAGAIN ∷ Reply.Ok ∷ Reply.Bytes [] ∷ []
unfolding computing
what_was_answered = refl

abbrev connecting : List Entry
connecting = made one_process 0 (
    (1, Request.Socket SockType.Stream (record { 0 = 0 })) ∷
    (1, Request.Bind (fd 0) (Addr.Abstract (codes "door"))) ∷
    (1, Request.Listen (fd 0) (pos 5)) ∷
    (1, Request.Accept (fd 0) (record { 0 = 0 })) ∷
    (1, Request.Socket SockType.Stream (record { 0 = 0 })) ∷
    (1, Request.Connect (fd 1) (Addr.Abstract (codes "door"))) ∷
    (1, Request.Accept (fd 0) (record { 0 = 0 })) ∷ [])

an_accept_waits : replies connecting ≡ Reply.Fd (fd 0) ∷ Reply.Ok ∷ Reply.Ok ∷ Reply.Err Errno.EAGAIN ∷ Reply.Fd
    (fd 1) ∷ Reply.Ok ∷ Reply.Accepted (fd 2) Addr.Unnamed ∷ []
unfolding computing bind make_socket listen connect accept
an_accept_waits = refl

abbrev filling : List Entry
filling = made one_process 0 (
    (1, pair_of SockType.Stream) ∷
    (1, Request.SetOpt (fd 1) SockOpt.QueueLimit 2) ∷
    (1, send 0 (codes "abc")) ∷
    (1, send 0 (codes "d")) ∷
    (1, Request.Read (fd 1) 8) ∷
    (1, send 0 (codes "d")) ∷ [])

a_send_waits : replies filling ≡ Reply.Fds (fd 0) (fd 1) ∷ Reply.Ok ∷ Reply.Count 2 ∷ Reply.Err Errno.EAGAIN ∷ Reply.Bytes
    (codes "ab") ∷ Reply.Count 1 ∷ []
unfolding computing
a_send_waits = refl

abbrev crowding : List Entry
crowding = made one_process 0 (
    (1, Request.Socket SockType.Stream (record { 0 = 0 })) ∷
    (1, Request.Bind (fd 0) (Addr.Abstract (codes "door"))) ∷
    (1, Request.Listen (fd 0) (pos 1)) ∷
    (1, Request.Socket SockType.Stream (record { 0 = 0 })) ∷
    (1, Request.Connect (fd 1) (Addr.Abstract (codes "door"))) ∷
    (1, Request.Socket SockType.Stream (record { 0 = 0 })) ∷
    (1, Request.Connect (fd 2) (Addr.Abstract (codes "door"))) ∷
    (1, Request.Accept (fd 0) (record { 0 = 0 })) ∷
    (1, Request.Connect (fd 2) (Addr.Abstract (codes "door"))) ∷ [])

a_connect_waits : replies crowding ≡ Reply.Fd (fd 0) ∷ Reply.Ok ∷ Reply.Ok ∷ Reply.Fd (fd 1) ∷ Reply.Ok ∷ Reply.Fd (fd 2) ∷ Reply.Err
    Errno.EAGAIN ∷ Reply.Accepted (fd 3) Addr.Unnamed ∷ Reply.Ok ∷ []
unfolding computing bind make_socket listen connect accept
a_connect_waits = refl
