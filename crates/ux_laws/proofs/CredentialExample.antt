-- A worked example, evaluated: a child's credentials come with what it sends, and the pair's are its maker's.
use Rattle.std.specs.Prelude.{◌≡◌, List, [], ◌∷◌, Some, None, refl, codes}
use Rattle.ux_model.specs.Types.{Cred, SockType, SockOpt, Request, Reply, Entry}
use Rattle.ux_model.specs.Process.{pid_of}
use Rattle.ux_model.specs.Delivery.{control_bytes}
use Rattle.ux_laws.proofs.Play.{computing, made, replies, one_process, pair_of, send, fd, flags}

abbrev calls : List Entry
calls = made one_process 0 (
    (1, pair_of SockType.Stream) ∷
    (1, Request.SetOpt (fd 1) SockOpt.PassCred 1) ∷
    (1, Request.Fork) ∷
    (1, send 0 (codes "a")) ∷
    (2, send 0 (codes "b")) ∷
    (1, Request.RecvMsg (fd 1) 8 32 (flags 0)) ∷
    (1, Request.RecvMsg (fd 1) 8 32 (flags 0)) ∷
    (2, Request.GetOpt (fd 1) SockOpt.PeerCred) ∷ [])

abbrev of_parent : Cred
of_parent = record { pid = record { 0 = 1 }; uid = 1000; gid = 1000 }

abbrev of_child : Cred
of_child = record { pid = record { 0 = 2 }; uid = 1000; gid = 1000 }

-- messages of two senders are not joined
what_was_given : replies calls
    ≡ Reply.Fds (fd 0) (fd 1) ∷ Reply.Ok ∷ Reply.Child (pid_of 2) ∷ Reply.Count 1 ∷ Reply.Count 1
    ∷ Reply.Received (flags 0) 1 (codes "a") (control_bytes (Some of_parent) []) None
    ∷ Reply.Received (flags 0) 1 (codes "b") (control_bytes (Some of_child) []) None
    ∷ Reply.Cred of_parent ∷ []
unfolding computing
what_was_given = refl
