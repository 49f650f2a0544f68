-- Worked examples, evaluated: processes that are made, and new programs in them.
use Rattle.std.specs.Prelude.{◌≡◌, [], ◌∷◌, replicate, refl, codes}
use Rattle.ux_model.specs.Types.{Errno, Mode, Request, Reply}
use Rattle.ux_model.specs.Object.{memory}
use Rattle.ux_model.specs.Process.{pid_of}
use Rattle.ux_model.specs.Boot.{boot_state}
use Rattle.ux_model.proofs.Examples.Play.{computing, play, play_released, process, with_files, fd, open_flags, refused}

-- A copy has its parent's descriptors, with one offset for both, and close-on-exec too. A new program keeps those without it. The file
-- goes with the last descriptor of all. A number is never given twice.
fork_and_exec : play_released (with_files ((codes "f", memory (codes "abcdef")) ∷ [])) 0 (
    (1, Request.Open (codes "f") Mode.Both (open_flags 4)) ∷
    (1, Request.Dup (fd 0)) ∷
    (1, Request.Fork) ∷
    (2, Request.Read (fd 0) 2) ∷
    (2, Request.Exec) ∷
    (2, Request.Read (fd 0) 2) ∷
    (2, Request.Read (fd 1) 2) ∷
    (1, Request.Read (fd 0) 2) ∷
    (1, Request.Unlink (codes "f")) ∷
    (1, Request.Exit) ∷
    (2, Request.Fork) ∷
    (2, Request.Exit) ∷
    (3, Request.Exec) ∷
    (3, Request.Close (fd 0)) ∷
    (3, Request.Close (fd 1)) ∷ [])
    ≡
    (Reply.Fd (fd 0), []) ∷
    (Reply.Fd (fd 1), []) ∷
    (Reply.Child (pid_of 2), []) ∷
    (Reply.Bytes (codes "ab"), []) ∷
    (Reply.Ok, []) ∷
    (refused Errno.EBADF, []) ∷
    (Reply.Bytes (codes "cd"), []) ∷
    (Reply.Bytes (codes "ef"), []) ∷
    (Reply.Ok, []) ∷
    (Reply.Ok, []) ∷
    (Reply.Child (pid_of 3), []) ∷
    (Reply.Ok, []) ∷
    (Reply.Ok, []) ∷
    (refused Errno.EBADF, []) ∷
    (Reply.Ok, 0 ∷ []) ∷ []
unfolding computing
fork_and_exec = refl

-- of 1,024 processes the last is made still, and counts when it has exited
most_processes : play (boot_state [] (replicate 1023 (process 1))) 0 (
    (1, Request.Fork) ∷
    (1, Request.Fork) ∷
    (1024, Request.Exit) ∷
    (1, Request.Fork) ∷ [])
    ≡
    Reply.Child (pid_of 1024) ∷
    refused Errno.EAGAIN ∷
    Reply.Ok ∷
    refused Errno.EAGAIN ∷ []
unfolding computing
most_processes = refl
