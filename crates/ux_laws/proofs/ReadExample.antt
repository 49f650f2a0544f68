-- A worked example, evaluated: a file is read up to its end, and a pipe, which is over only once nobody can write to it.
use Rattle.std.specs.Prelude.{◌≡◌, List, [], ◌∷◌, refl, codes}
use Rattle.ux_model.specs.Types.{Errno, Mode, Request, Reply, Entry}
use Rattle.ux_model.specs.Object.{memory}
use Rattle.ux_model.specs.State.{State}
use Rattle.ux_laws.proofs.Play.{computing, made, replies, with_files, fd}

abbrev boot : State
boot = with_files ((codes "f", memory (codes "abc")) ∷ [])

abbrev calls : List Entry
calls = made boot 0 (
    (1, Request.Open (codes "f") Mode.Read (record { 0 = 0 })) ∷
    (1, Request.Read (fd 0) 2) ∷
    (1, Request.Read (fd 0) 8) ∷
    (1, Request.Read (fd 0) 8) ∷
    (1, Request.Pipe (record { 0 = 0 })) ∷
    (1, Request.Write (fd 2) (codes "xyz")) ∷
    (1, Request.Read (fd 1) 2) ∷
    (1, Request.Read (fd 1) 8) ∷
    (1, Request.Read (fd 1) 8) ∷
    (1, Request.Close (fd 2)) ∷
    (1, Request.Read (fd 1) 8) ∷ [])

what_was_answered : replies calls
    ≡ Reply.Fd (fd 0) ∷ Reply.Bytes (codes "ab") ∷ Reply.Bytes (codes "c") ∷ Reply.Bytes [] ∷ Reply.Fds (fd 1) (fd 2) ∷ Reply.Count 3
    ∷ Reply.Bytes (codes "xy") ∷ Reply.Bytes (codes "z") ∷ Reply.Err Errno.EAGAIN ∷ Reply.Ok ∷ Reply.Bytes [] ∷ []
unfolding computing
what_was_answered = refl
