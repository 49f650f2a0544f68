-- Worked examples, evaluated: options, readiness, credentials and the limit of rights in flight.
use Rattle.std.specs.Prelude.{◌≡◌, ℕ, List, [], ◌∷◌, None, refl, codes}
use Rattle.ux_model.specs.Types.{Errno, Cred, Addr, SockType, SockOpt, Request, Reply}
use Rattle.ux_model.specs.Boot.{boot_state}
use Rattle.ux_model.specs.Delivery.{control_bytes}
use Rattle.ux_model.proofs.Examples.Play.{computing, play, one_process, process, fd, flags, open_flags, pair, send, recv, shut, ends, got}
use Rattle.ux_model.proofs.Examples.Play.{refused}

abbrev a_socket : SockType → Request
a_socket kind = Request.Socket kind (open_flags 0)

abbrev poll_of : ℕ → Request
poll_of n = Request.Poll (fd n)

abbrev told : ℕ → Reply
told bits = Reply.Poll (record { 0 = bits })

abbrev own : Cred
own = record { pid = record { 0 = 1 }; uid = 1000; gid = 1000 }

-- with these rights
abbrev pass : ℕ → List ℕ → Request
pass n rights = Request.SendMsg (fd n) None (codes "x") (control_bytes None rights) (flags 0)

-- an idle socket is hung up; a pair has room; a byte that waits is input; the loss of a peer is reported once as an error
conditions : play one_process 0 (
    (1, a_socket SockType.Stream) ∷
    (1, poll_of 0) ∷
    (1, pair) ∷
    (1, poll_of 1) ∷
    (1, send 1 (codes "x")) ∷
    (1, poll_of 2) ∷
    (1, shut 2) ∷
    (1, poll_of 1) ∷
    (1, Request.GetOpt (fd 1) SockOpt.Error) ∷
    (1, Request.GetOpt (fd 1) SockOpt.Error) ∷
    (1, poll_of 1) ∷
    (1, poll_of 9) ∷ [])
    ≡
    Reply.Fd (fd 0) ∷
    told 8 ∷
    ends 1 2 ∷
    told 2 ∷
    Reply.Count 1 ∷
    told 3 ∷
    Reply.Ok ∷
    told 31 ∷
    Reply.Opt 20 ∷
    Reply.Opt 0 ∷
    told 15 ∷
    told 32 ∷ []
unfolding computing
conditions = refl

-- SO_PASSCRED binds a socket without a name; who has a peer needs none
named_by_option : play one_process 0 (
    (1, a_socket SockType.Dgram) ∷
    (1, Request.SetOpt (fd 0) SockOpt.PassCred 1) ∷
    (1, Request.GetSockName (fd 0)) ∷
    (1, pair) ∷
    (1, Request.SetOpt (fd 1) SockOpt.PassCred 1) ∷
    (1, Request.GetSockName (fd 1)) ∷
    (1, Request.GetOpt (fd 1) SockOpt.PeerCred) ∷
    (1, Request.GetOpt (fd 0) SockOpt.PeerCred) ∷
    (1, Request.SetOpt (fd 0) SockOpt.Kind 1) ∷ [])
    ≡
    Reply.Fd (fd 0) ∷
    Reply.Ok ∷
    Reply.Addr (Addr.Abstract (codes "00000")) ∷
    ends 1 2 ∷
    Reply.Ok ∷
    Reply.Addr Addr.Unnamed ∷
    Reply.Cred own ∷
    refused Errno.ENOTCONN ∷
    refused Errno.EINVAL ∷ []
unfolding computing
named_by_option = refl

-- A limit that is raised or lowered: of the bytes that wait none is dropped, and there is room once they are fewer than the limit.
limit_of_a_queue : play one_process 0 (
    (1, pair) ∷
    (1, Request.GetOpt (fd 1) SockOpt.QueueLimit) ∷
    (1, Request.SetOpt (fd 1) SockOpt.QueueLimit 4) ∷
    (1, send 0 (codes "abcdef")) ∷
    (1, send 0 (codes "g")) ∷
    (1, poll_of 0) ∷
    (1, Request.SetOpt (fd 1) SockOpt.QueueLimit 2) ∷
    (1, recv 1 3) ∷
    (1, send 0 (codes "gx")) ∷
    (1, recv 1 8) ∷
    (1, Request.SetOpt (fd 1) SockOpt.QueueLimit 0) ∷
    (1, Request.SetOpt (fd 1) SockOpt.QueueLimit 1048577) ∷
    (1, a_socket SockType.Dgram) ∷
    (1, Request.GetOpt (fd 2) SockOpt.QueueLimit) ∷
    (1, Request.SetOpt (fd 2) SockOpt.QueueLimit 0) ∷ [])
    ≡
    ends 0 1 ∷
    Reply.Opt 65536 ∷
    Reply.Ok ∷
    Reply.Count 4 ∷
    refused Errno.EAGAIN ∷
    told 0 ∷
    Reply.Ok ∷
    got 3 (codes "abc") ∷
    Reply.Count 1 ∷
    got 2 (codes "dg") ∷
    refused Errno.EINVAL ∷
    refused Errno.EINVAL ∷
    Reply.Fd (fd 2) ∷
    refused Errno.EOPNOTSUPP ∷
    refused Errno.EOPNOTSUPP ∷ []
unfolding computing
limit_of_a_queue = refl

-- of a process that may have four descriptors: the rights of this send count, and those that a receive takes count no more
limit_in_flight : play (boot_state [] (process 4 ∷ [])) 0 (
    (1, pair) ∷
    (1, pass 0 (0 ∷ 0 ∷ 0 ∷ [])) ∷
    (1, pass 0 (0 ∷ 0 ∷ [])) ∷
    (1, pass 0 (0 ∷ [])) ∷
    (1, pass 0 (0 ∷ [])) ∷
    (1, send 0 (codes "x")) ∷
    (1, recv 1 1) ∷
    (1, pass 0 (0 ∷ 0 ∷ 0 ∷ [])) ∷ [])
    ≡
    ends 0 1 ∷
    Reply.Count 1 ∷
    refused Errno.ETOOMANYREFS ∷
    Reply.Count 1 ∷
    refused Errno.ETOOMANYREFS ∷
    Reply.Count 1 ∷
    Reply.Received (flags 16) 1 (codes "x") [] None ∷
    Reply.Count 1 ∷ []
unfolding computing
limit_in_flight = refl
