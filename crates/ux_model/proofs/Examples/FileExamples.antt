-- Worked examples, evaluated: file objects and descriptors.
use Rattle.std.specs.Prelude.{◌≡◌, false, [], ◌∷◌, refl, codes, pos, negsuc}
use Rattle.ux_model.specs.Types.{Errno, SockType, Mode, Whence, Request, Reply}
use Rattle.ux_model.specs.Object.{memory, counter, pipe}
use Rattle.ux_model.proofs.Examples.Play.{computing, play_released, with_files, fd, open_flags}

-- a counter and a pipe
counter_and_pipe : play_released (with_files ((codes "c", counter false 0) ∷ (codes "p", pipe []) ∷ [])) 0 (
    (1, Request.Open (codes "c") Mode.Both (open_flags 0)) ∷
    (1, Request.Read (fd 0) 8) ∷
    (1, Request.Write (fd 0) (5 ∷ 0 ∷ 0 ∷ 0 ∷ 0 ∷ 0 ∷ 0 ∷ 0 ∷ [])) ∷
    (1, Request.Write (fd 0) (255 ∷ 255 ∷ 255 ∷ 255 ∷ 255 ∷ 255 ∷ 255 ∷ 255 ∷ [])) ∷
    (1, Request.Write (fd 0) (254 ∷ 255 ∷ 255 ∷ 255 ∷ 255 ∷ 255 ∷ 255 ∷ 255 ∷ [])) ∷
    (1, Request.Read (fd 0) 4) ∷
    (1, Request.Read (fd 0) 8) ∷
    (1, Request.Open (codes "p") Mode.Write (open_flags 0)) ∷
    (1, Request.Write (fd 1) (120 ∷ [])) ∷
    (1, Request.Open (codes "p") Mode.Read (open_flags 0)) ∷
    (1, Request.Write (fd 1) (120 ∷ [])) ∷
    (1, Request.Close (fd 1)) ∷
    (1, Request.Read (fd 2) 8) ∷
    (1, Request.Read (fd 2) 8) ∷
    (1, Request.Lseek (fd 2) (pos 0) Whence.Set) ∷
    (1, Request.Exit) ∷ [])
    ≡
    (Reply.Fd (fd 0), []) ∷
    (Reply.Err Errno.EAGAIN, []) ∷
    (Reply.Count 8, []) ∷
    (Reply.Err Errno.EINVAL, []) ∷
    (Reply.Err Errno.EAGAIN, []) ∷
    (Reply.Err Errno.EINVAL, []) ∷
    (Reply.Bytes (5 ∷ 0 ∷ 0 ∷ 0 ∷ 0 ∷ 0 ∷ 0 ∷ 0 ∷ []), []) ∷
    (Reply.Fd (fd 1), []) ∷
    (Reply.Err Errno.EPIPE, []) ∷
    (Reply.Fd (fd 2), []) ∷
    (Reply.Count 1, []) ∷
    (Reply.Ok, []) ∷
    (Reply.Bytes (120 ∷ []), []) ∷
    (Reply.Bytes [], []) ∷
    (Reply.Err Errno.ESPIPE, []) ∷
    (Reply.Ok, []) ∷ []
unfolding computing
counter_and_pipe = refl

-- duplicated descriptors share offset and append; the file goes with the last
one_offset_for_all_descriptors : play_released (with_files ((codes "f", memory (codes "abcdef")) ∷ [])) 0 (
    (1, Request.Open (codes "f") Mode.Both (open_flags 1)) ∷
    (1, Request.Write (fd 0) (103 ∷ 104 ∷ [])) ∷
    (1, Request.Lseek (fd 0) (pos 2) Whence.Set) ∷
    (1, Request.Dup (fd 0)) ∷
    (1, Request.Read (fd 1) 2) ∷
    (1, Request.Lseek (fd 0) (pos 0) Whence.Cur) ∷
    (1, Request.SetFlags (fd 0) (open_flags 0)) ∷
    (1, Request.Write (fd 1) (88 ∷ [])) ∷
    (1, Request.Read (fd 0) 8) ∷
    (1, Request.Dup2 (fd 0) (fd 7)) ∷
    (1, Request.Dup2 (fd 0) (fd 16)) ∷
    (1, Request.Unlink (codes "f")) ∷
    (1, Request.Close (fd 0)) ∷
    (1, Request.Close (fd 1)) ∷
    (1, Request.Close (fd 7)) ∷
    (1, Request.SocketPair SockType.Stream (open_flags 0)) ∷
    (1, Request.Write (fd 0) (104 ∷ 105 ∷ [])) ∷
    (1, Request.Read (fd 1) 8) ∷
    (1, Request.Exit) ∷ [])
    ≡
    (Reply.Fd (fd 0), []) ∷
    (Reply.Count 2, []) ∷
    (Reply.At 2, []) ∷
    (Reply.Fd (fd 1), []) ∷
    (Reply.Bytes (99 ∷ 100 ∷ []), []) ∷
    (Reply.At 4, []) ∷
    (Reply.Ok, []) ∷
    (Reply.Count 1, []) ∷
    (Reply.Bytes (102 ∷ 103 ∷ 104 ∷ []), []) ∷
    (Reply.Fd (fd 7), []) ∷
    (Reply.Err Errno.EBADF, []) ∷
    (Reply.Ok, []) ∷
    (Reply.Ok, []) ∷
    (Reply.Ok, []) ∷
    (Reply.Ok, (0 ∷ [])) ∷
    (Reply.Fds (fd 0) (fd 1), []) ∷
    (Reply.Count 2, []) ∷
    (Reply.Bytes (104 ∷ 105 ∷ []), []) ∷
    (Reply.Ok, []) ∷ []
unfolding computing
one_offset_for_all_descriptors = refl

-- an offset is never below 0 and has 63 bits; at the end of the layer an open file goes, whatever names it
offsets_and_the_end : play_released (with_files ((codes "f", memory (codes "abcdef")) ∷ [])) 0 (
    (1, Request.Open (codes "f") Mode.Both (open_flags 0)) ∷
    (1, Request.Lseek (fd 0) (negsuc 0) Whence.End) ∷
    (1, Request.Read (fd 0) 4) ∷
    (1, Request.Lseek (fd 0) (negsuc 0) Whence.Set) ∷
    (1, Request.Lseek (fd 0) (pos 9223372036854775807) Whence.Cur) ∷
    (1, Request.Exit) ∷
    (0, Request.Off) ∷ [])
    ≡
    (Reply.Fd (fd 0), []) ∷
    (Reply.At 5, []) ∷
    (Reply.Bytes (codes "f"), []) ∷
    (Reply.Err Errno.EINVAL, []) ∷
    (Reply.Err Errno.EINVAL, []) ∷
    (Reply.Ok, []) ∷
    (Reply.Ok, 0 ∷ []) ∷ []
unfolding computing
offsets_and_the_end = refl

-- A number that isn't below a minimum, and flags: O_NONBLOCK is the description's, close-on-exec the descriptor's. Numbers end at 15.
numbers_from_a_minimum : play_released (with_files ((codes "f", memory []) ∷ [])) 0 (
    (1, Request.Open (codes "f") Mode.Read (open_flags 4)) ∷
    (1, Request.DupFrom (fd 0) (fd 5)) ∷
    (1, Request.DupFrom (fd 5) (fd 5)) ∷
    (1, Request.GetFlags (fd 0)) ∷
    (1, Request.GetFlags (fd 5)) ∷
    (1, Request.SetFlags (fd 5) (open_flags 3)) ∷
    (1, Request.GetFlags (fd 0)) ∷
    (1, Request.DupFrom (fd 0) (fd 15)) ∷
    (1, Request.DupFrom (fd 0) (fd 15)) ∷
    (1, Request.DupFrom (fd 0) (fd 16)) ∷
    (1, Request.DupFrom (fd 1) (fd 16)) ∷
    (1, Request.DupFrom (fd 0) (fd 0)) ∷
    (1, Request.GetFlags (fd 2)) ∷ [])
    ≡
    (Reply.Fd (fd 0), []) ∷
    (Reply.Fd (fd 5), []) ∷
    (Reply.Fd (fd 6), []) ∷
    (Reply.Flags (open_flags 4), []) ∷
    (Reply.Flags (open_flags 0), []) ∷
    (Reply.Ok, []) ∷
    (Reply.Flags (open_flags 7), []) ∷
    (Reply.Fd (fd 15), []) ∷
    (Reply.Err Errno.EMFILE, []) ∷
    (Reply.Err Errno.EINVAL, []) ∷
    (Reply.Err Errno.EBADF, []) ∷
    (Reply.Fd (fd 1), []) ∷
    (Reply.Err Errno.EBADF, []) ∷ []
unfolding computing
numbers_from_a_minimum = refl
