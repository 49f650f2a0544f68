-- Worked examples, evaluated: datagrams, which go where an address or an association leads, and records.
use Rattle.std.specs.Prelude.{◌≡◌, ℕ, List, [], ◌∷◌, Some, None, refl, codes}
use Rattle.ux_model.specs.Types.{Errno, Addr, SockType, Request, Reply}
use Rattle.ux_model.proofs.Examples.Play.{computing, play, one_process, fd, flags, open_flags, send, recv, shut, ends, refused}

abbrev a_socket : Request
a_socket = Request.Socket SockType.Dgram (open_flags 0)

abbrev bind_as : ℕ → List ℕ → Request
bind_as n name = Request.Bind (fd n) (Addr.Abstract name)

abbrev associate : ℕ → List ℕ → Request
associate n name = Request.Connect (fd n) (Addr.Abstract name)

abbrev send_to : ℕ → List ℕ → List ℕ → Request
send_to n name bytes = Request.SendMsg (fd n) (Some (Addr.Abstract name)) bytes [] (flags 0)

abbrev got_from : Addr → ℕ → List ℕ → ℕ → Reply
got_from from count bytes told = Reply.Received (flags told) count bytes [] (Some from)

-- a datagram that is longer than what is asked for is cut, and the rest is gone; with MSG_TRUNC the count is its length
cut : play one_process 0 (
    (1, Request.SocketPair SockType.Dgram (open_flags 0)) ∷
    (1, send 0 (codes "0123")) ∷
    (1, recv 1 2) ∷
    (1, send 0 (codes "0123")) ∷
    (1, Request.RecvMsg (fd 1) 2 0 (flags 2)) ∷
    (1, send 0 []) ∷
    (1, recv 1 2) ∷
    (1, recv 1 2) ∷ [])
    ≡
    ends 0 1 ∷
    Reply.Count 4 ∷
    got_from Addr.Unnamed 2 (codes "01") 2 ∷
    Reply.Count 4 ∷
    got_from Addr.Unnamed 4 (codes "01") 2 ∷
    Reply.Count 0 ∷
    got_from Addr.Unnamed 0 [] 0 ∷
    refused Errno.EAGAIN ∷ []
unfolding computing
cut = refl

-- an associated socket takes from its target alone; a target that is gone ends the association
associated_alone : play one_process 0 (
    (1, a_socket) ∷
    (1, bind_as 0 (codes "a")) ∷
    (1, a_socket) ∷
    (1, bind_as 1 (codes "b")) ∷
    (1, a_socket) ∷
    (1, associate 0 (codes "b")) ∷
    (1, send_to 2 (codes "a") (codes "x")) ∷
    (1, associate 2 (codes "a")) ∷
    (1, send_to 1 (codes "a") (codes "y")) ∷
    (1, recv 0 8) ∷
    (1, shut 1) ∷
    (1, send 0 (codes "z")) ∷
    (1, send 0 (codes "z")) ∷ [])
    ≡
    Reply.Fd (fd 0) ∷
    Reply.Ok ∷
    Reply.Fd (fd 1) ∷
    Reply.Ok ∷
    Reply.Fd (fd 2) ∷
    Reply.Ok ∷
    refused Errno.EPERM ∷
    refused Errno.EPERM ∷
    Reply.Count 1 ∷
    got_from (Addr.Abstract (codes "b")) 1 (codes "y") 0 ∷
    Reply.Ok ∷
    refused Errno.ECONNREFUSED ∷
    refused Errno.EDESTADDRREQ ∷ []
unfolding computing
associated_alone = refl

-- each receive of a record reports its end, also of an empty one; the end of input has none
ends_of_records : play one_process 0 (
    (1, Request.SocketPair SockType.Seq (open_flags 0)) ∷
    (1, send 0 (codes "abc")) ∷
    (1, send 0 []) ∷
    (1, shut 0) ∷
    (1, recv 1 2) ∷
    (1, recv 1 8) ∷
    (1, recv 1 8) ∷
    (1, send 1 []) ∷ [])
    ≡
    ends 0 1 ∷
    Reply.Count 3 ∷
    Reply.Count 0 ∷
    Reply.Ok ∷
    Reply.Received (flags 34) 2 (codes "ab") [] None ∷
    Reply.Received (flags 32) 0 [] [] None ∷
    Reply.Received (flags 0) 0 [] [] None ∷
    refused Errno.EPIPE ∷ []
unfolding computing
ends_of_records = refl
