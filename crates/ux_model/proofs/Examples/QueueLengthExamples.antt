-- Worked examples, evaluated: how many bytes wait.
use Rattle.std.specs.Prelude.{◌≡◌, false, [], ◌∷◌, None, refl, codes, pos}
use Rattle.ux_model.specs.Types.{Errno, Addr, SockType, Whence, Request, Reply}
use Rattle.ux_model.specs.Connecting.{listen}
use Rattle.ux_model.proofs.Examples.Play.{computing, play, one_process, fd, open_flags, pair, send, recv, shut, ends, got, refused}

-- what one end of a connection hasn't received the other has sent; what is left behind at an end's close is received by nobody
of_a_connection : play one_process 0 (
    (1, pair) ∷
    (1, send 0 (codes "abc")) ∷
    (1, send 0 (codes "de")) ∷
    (1, Request.InQueue (fd 1)) ∷
    (1, Request.OutQueue (fd 0)) ∷
    (1, Request.InQueue (fd 0)) ∷
    (1, recv 1 4) ∷
    (1, Request.InQueue (fd 1)) ∷
    (1, Request.OutQueue (fd 0)) ∷
    (1, shut 1) ∷
    (1, Request.OutQueue (fd 0)) ∷
    (1, Request.InQueue (fd 1)) ∷ [])
    ≡
    ends 0 1 ∷
    Reply.Count 3 ∷
    Reply.Count 2 ∷
    Reply.Count 5 ∷
    Reply.Count 5 ∷
    Reply.Count 0 ∷
    got 4 (codes "abcd") ∷
    Reply.Count 1 ∷
    Reply.Count 1 ∷
    Reply.Ok ∷
    Reply.Count 0 ∷
    refused Errno.EBADF ∷ []
unfolding computing
of_a_connection = refl

-- of datagrams the oldest counts, and what was sent isn't counted; of records all do
of_messages : play one_process 0 (
    (1, Request.SocketPair SockType.Dgram (open_flags 0)) ∷
    (1, Request.InQueue (fd 1)) ∷
    (1, send 0 (codes "ab")) ∷
    (1, send 0 (codes "c")) ∷
    (1, Request.InQueue (fd 1)) ∷
    (1, Request.OutQueue (fd 0)) ∷
    (1, Request.SocketPair SockType.Seq (open_flags 0)) ∷
    (1, send 2 (codes "ab")) ∷
    (1, send 2 (codes "c")) ∷
    (1, Request.InQueue (fd 3)) ∷
    (1, Request.OutQueue (fd 2)) ∷ [])
    ≡
    ends 0 1 ∷
    Reply.Count 0 ∷
    Reply.Count 2 ∷
    Reply.Count 1 ∷
    Reply.Count 2 ∷
    refused Errno.EOPNOTSUPP ∷
    ends 2 3 ∷
    Reply.Count 2 ∷
    Reply.Count 1 ∷
    Reply.Count 3 ∷
    Reply.Count 3 ∷ []
unfolding computing
of_messages = refl

-- a memory file has what lies ahead of the offset, a pipe all that is in it, a counter no bytes
of_file_objects : play one_process 0 (
    (1, Request.MemFd (open_flags 0)) ∷
    (1, Request.Write (fd 0) (codes "abc")) ∷
    (1, Request.InQueue (fd 0)) ∷
    (1, Request.Lseek (fd 0) (pos 1) Whence.Set) ∷
    (1, Request.InQueue (fd 0)) ∷
    (1, Request.Lseek (fd 0) (pos 9) Whence.Set) ∷
    (1, Request.InQueue (fd 0)) ∷
    (1, Request.Pipe (open_flags 0)) ∷
    (1, Request.Write (fd 2) (codes "abc")) ∷
    (1, Request.InQueue (fd 1)) ∷
    (1, Request.InQueue (fd 2)) ∷
    (1, Request.EventFd 3 false (open_flags 0)) ∷
    (1, Request.InQueue (fd 3)) ∷
    (1, Request.OutQueue (fd 2)) ∷ [])
    ≡
    Reply.Fd (fd 0) ∷
    Reply.Count 3 ∷
    Reply.Count 0 ∷
    Reply.At 1 ∷
    Reply.Count 2 ∷
    Reply.At 9 ∷
    Reply.Count 0 ∷
    Reply.Fds (fd 1) (fd 2) ∷
    Reply.Count 3 ∷
    Reply.Count 3 ∷
    Reply.Count 3 ∷
    Reply.Fd (fd 3) ∷
    refused Errno.ENOTTY ∷
    refused Errno.ENOTTY ∷ []
unfolding computing
of_file_objects = refl

-- at a listener ends wait, and no bytes
of_a_listener : play one_process 0 (
    (1, Request.Socket SockType.Stream (open_flags 0)) ∷
    (1, Request.InQueue (fd 0)) ∷
    (1, Request.Bind (fd 0) (Addr.Abstract (codes "l"))) ∷
    (1, Request.Listen (fd 0) (pos 4)) ∷
    (1, Request.InQueue (fd 0)) ∷
    (1, Request.OutQueue (fd 0)) ∷ [])
    ≡
    Reply.Fd (fd 0) ∷
    Reply.Count 0 ∷
    Reply.Ok ∷
    Reply.Ok ∷
    refused Errno.EINVAL ∷
    Reply.Count 0 ∷ []
unfolding computing listen
of_a_listener = refl
