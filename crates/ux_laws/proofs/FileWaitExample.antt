-- A worked example, evaluated: a read of a counter that is 0 waits until a write, a write until a number fits, and a read of a pipe until
-- bytes come, or nobody can write to it.
use Rattle.std.specs.Prelude.{◌≡◌, ℕ, false, List, [], ◌∷◌, refl, codes}
use Rattle.ux_model.specs.Types.{Errno, Request, Reply, Entry}
use Rattle.ux_model.specs.Making.{make_object}
use Rattle.ux_laws.proofs.Play.{computing, made, replies, one_process, fd}

-- the numbers 3, and the greatest that a counter holds
abbrev three : List ℕ
three = 3 ∷ 0 ∷ 0 ∷ 0 ∷ 0 ∷ 0 ∷ 0 ∷ 0 ∷ []

abbrev greatest : List ℕ
greatest = 254 ∷ 255 ∷ 255 ∷ 255 ∷ 255 ∷ 255 ∷ 255 ∷ 255 ∷ []

abbrev counting : List Entry
counting = made one_process 0 (
    (1, Request.EventFd 0 false (record { 0 = 0 })) ∷
    (1, Request.Read (fd 0) 8) ∷
    (1, Request.Write (fd 0) three) ∷
    (1, Request.Write (fd 0) greatest) ∷
    (1, Request.Read (fd 0) 8) ∷
    (1, Request.Write (fd 0) greatest) ∷ [])

a_counter_waits : replies counting
    ≡ Reply.Fd (fd 0) ∷ Reply.Err Errno.EAGAIN ∷ Reply.Count 8 ∷ Reply.Err Errno.EAGAIN ∷ Reply.Bytes three ∷ Reply.Count 8
    ∷ []
unfolding computing make_object
a_counter_waits = refl

abbrev piping : List Entry
piping = made one_process 0 (
    (1, Request.Pipe (record { 0 = 0 })) ∷
    (1, Request.Read (fd 0) 8) ∷
    (1, Request.Write (fd 1) (codes "hi")) ∷
    (1, Request.Read (fd 0) 8) ∷
    (1, Request.Read (fd 0) 8) ∷
    (1, Request.Close (fd 1)) ∷
    (1, Request.Read (fd 0) 8) ∷ [])

a_pipe_waits : replies piping
    ≡ Reply.Fds (fd 0) (fd 1) ∷ Reply.Err Errno.EAGAIN ∷ Reply.Count 2 ∷ Reply.Bytes (codes "hi") ∷ Reply.Err Errno.EAGAIN ∷ Reply.Ok
    ∷ Reply.Bytes [] ∷ []
unfolding computing
a_pipe_waits = refl
