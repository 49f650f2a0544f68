-- Worked examples, evaluated: processes that change who they run as.
use Rattle.std.specs.Prelude.{◌≡◌, ℕ, true, [], ◌∷◌, refl}
use Rattle.ux_model.specs.Types.{Errno, ProcSpec, SockOpt, Request, Reply}
use Rattle.ux_model.specs.Process.{pid_of}
use Rattle.ux_model.specs.Users.{no_id}
use Rattle.ux_model.specs.Boot.{boot_state}
use Rattle.ux_model.proofs.Examples.Play.{computing, play, process, fd, pair, ends, refused}

-- a privileged process of this user
abbrev privileged : ℕ → ProcSpec
privileged uid = record { uid = uid; gid = uid; privileged = true; limit = 16 }

abbrev of_user : ℕ → ℕ → Reply
of_user p uid = Reply.Cred (record { pid = pid_of p; uid = uid; gid = uid })

-- Process 1 is user 0's, and loses its privileges where it becomes another's. Process 2 keeps its ids. Process 3 is privileged as a user
-- that isn't 0: it stays so until it has been user 0. What was recorded before stays.
ids_change : play (boot_state [] (privileged 0 ∷ process 16 ∷ privileged 5 ∷ [])) 0 (
    (1, pair) ∷
    (2, Request.SetIds 1000 1000) ∷
    (2, Request.SetIds 0 1000) ∷
    (2, Request.SetIds 1000 0) ∷
    (2, Request.SetIds no_id 1000) ∷
    (1, Request.SetIds 0 no_id) ∷
    (1, Request.SetIds 0 7) ∷
    (1, Request.SetIds 1000 1000) ∷
    (1, Request.SetIds 0 0) ∷
    (1, Request.GetOpt (fd 0) SockOpt.PeerCred) ∷
    (1, pair) ∷
    (1, Request.GetOpt (fd 2) SockOpt.PeerCred) ∷
    (3, Request.SetIds 6 6) ∷
    (3, Request.SetIds 0 0) ∷
    (3, Request.SetIds 6 6) ∷
    (3, Request.SetIds 5 5) ∷ [])
    ≡
    ends 0 1 ∷
    Reply.Ok ∷
    refused Errno.EPERM ∷
    refused Errno.EPERM ∷
    refused Errno.EINVAL ∷
    refused Errno.EINVAL ∷
    Reply.Ok ∷
    Reply.Ok ∷
    refused Errno.EPERM ∷
    of_user 1 0 ∷
    ends 2 3 ∷
    of_user 1 1000 ∷
    Reply.Ok ∷
    Reply.Ok ∷
    Reply.Ok ∷
    refused Errno.EPERM ∷ []
unfolding computing
ids_change = refl
