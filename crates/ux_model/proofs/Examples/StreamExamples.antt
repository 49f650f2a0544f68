-- Worked examples, evaluated: connected pairs of stream sockets.
use Rattle.std.specs.Prelude.{◌≡◌, [], ◌∷◌, None, refl, codes}
use Rattle.ux_model.specs.Types.{Errno, Request, Reply}
use Rattle.ux_model.proofs.Examples.Play.{computing, play, played, one_process, two_processes, fd, flags, pair, send, recv, peek, shut}
use Rattle.ux_model.proofs.Examples.Play.{ends, got, refused}

-- a pair, a send, a receive
pair_send_receive : play one_process 0 (
    (1, pair) ∷
    (1, send 0 (codes "hi")) ∷
    (1, recv 1 8) ∷
    (1, Request.Exit) ∷ [])
    ≡
    ends 0 1 ∷
    Reply.Count 2 ∷
    got 2 (codes "hi") ∷
    Reply.Ok ∷ []
unfolding computing
pair_send_receive = refl

-- a peek leaves the queue; an end that is dropped with unread bytes resets its peer
peek_reset_and_broken_pipe : play one_process 0 (
    (1, pair) ∷
    (1, send 0 (codes "ab")) ∷
    (1, peek 1 1) ∷
    (1, recv 1 8) ∷
    (1, recv 1 8) ∷
    (1, send 0 []) ∷
    (1, recv 1 0) ∷
    (1, send 0 (codes "x")) ∷
    (1, shut 1) ∷
    (1, recv 0 8) ∷
    (1, recv 0 8) ∷
    (1, send 0 (codes "x")) ∷
    (1, shut 0) ∷
    (1, shut 0) ∷
    (1, Request.Exit) ∷ [])
    ≡
    ends 0 1 ∷
    Reply.Count 2 ∷
    got 1 (codes "a") ∷
    got 2 (codes "ab") ∷
    refused Errno.EAGAIN ∷
    Reply.Count 0 ∷
    got 0 [] ∷
    Reply.Count 1 ∷
    Reply.Ok ∷
    refused Errno.ECONNRESET ∷
    got 0 [] ∷
    refused Errno.EPIPE ∷
    Reply.Ok ∷
    refused Errno.EBADF ∷
    Reply.Ok ∷ []
unfolding computing
peek_reset_and_broken_pipe = refl

-- one receive joins two sends, and takes a part of the second
joined_and_cut : play one_process 0 (
    (1, pair) ∷
    (1, send 1 (codes "abc")) ∷
    (1, send 1 (codes "def")) ∷
    (1, recv 0 4) ∷
    (1, recv 0 9) ∷
    (1, recv 0 9) ∷ [])
    ≡
    ends 0 1 ∷
    Reply.Count 3 ∷
    Reply.Count 3 ∷
    got 4 (codes "abcd") ∷
    got 2 (codes "ef") ∷
    refused Errno.EAGAIN ∷ []
unfolding computing
joined_and_cut = refl

-- what was sent before the peer went stays readable, and then comes the pending error, which a
-- receive of no bytes neither answers nor clears, but a peek does
reset_comes_behind_the_queue : play one_process 0 (
    (1, pair) ∷
    (1, send 1 (codes "ab")) ∷
    (1, send 0 (codes "x")) ∷
    (1, shut 1) ∷
    (1, peek 0 1) ∷
    (1, recv 0 8) ∷
    (1, recv 0 0) ∷
    (1, peek 0 8) ∷
    (1, recv 0 8) ∷
    (1, send 0 []) ∷ [])
    ≡
    ends 0 1 ∷
    Reply.Count 2 ∷
    Reply.Count 1 ∷
    Reply.Ok ∷
    got 1 (codes "a") ∷
    got 2 (codes "ab") ∷
    got 0 [] ∷
    refused Errno.ECONNRESET ∷
    got 0 [] ∷
    refused Errno.EPIPE ∷ []
unfolding computing
reset_comes_behind_the_queue = refl

-- an end that is dropped with nothing unread resets nobody
end_of_input : play one_process 0 (
    (1, pair) ∷
    (1, send 0 (codes "x")) ∷
    (1, recv 1 8) ∷
    (1, shut 1) ∷
    (1, recv 0 8) ∷ [])
    ≡
    ends 0 1 ∷
    Reply.Count 1 ∷
    got 1 (codes "x") ∷
    Reply.Ok ∷
    got 0 [] ∷ []
unfolding computing
end_of_input = refl

-- a send takes DONTWAIT and EOR, a receive PEEK, TRUNC, DONTWAIT and CMSG_CLOEXEC; a number that
-- isn't open is reported before a bad flag
flags_of_the_calls : play one_process 0 (
    (1, pair) ∷
    (1, Request.SendMsg (fd 0) None (codes "a") [] (flags 1)) ∷
    (1, Request.SendMsg (fd 0) None [] [] (flags 2)) ∷
    (1, Request.SendMsg (fd 0) None (codes "a") [] (flags 24)) ∷
    (1, Request.SendMsg (fd 2) None (codes "a") [] (flags 1)) ∷
    (1, Request.SendMsg (fd 0) None (codes "a") [] (flags 36)) ∷
    (1, Request.RecvMsg (fd 1) 8 0 (flags 16)) ∷
    (1, Request.RecvMsg (fd 1) 0 0 (flags 32)) ∷
    (1, Request.RecvMsg (fd 2) 8 0 (flags 16)) ∷
    (1, Request.RecvMsg (fd 1) 8 0 (flags 15)) ∷
    (1, Request.RecvMsg (fd 1) 8 0 (flags 14)) ∷ [])
    ≡
    ends 0 1 ∷
    refused Errno.EINVAL ∷
    refused Errno.EINVAL ∷
    refused Errno.EINVAL ∷
    refused Errno.EBADF ∷
    Reply.Count 1 ∷
    refused Errno.EINVAL ∷
    refused Errno.EINVAL ∷
    refused Errno.EBADF ∷
    got 1 (codes "a") ∷
    got 1 (codes "a") ∷ []
unfolding computing
flags_of_the_calls = refl

-- each process has its own numbers
two_tables : play two_processes 0 (
    (1, pair) ∷
    (2, recv 0 8) ∷
    (2, pair) ∷
    (1, send 0 (codes "a")) ∷
    (2, recv 1 8) ∷
    (1, shut 1) ∷
    (2, send 0 (codes "b")) ∷
    (2, recv 1 8) ∷ [])
    ≡
    ends 0 1 ∷
    refused Errno.EBADF ∷
    ends 0 1 ∷
    Reply.Count 1 ∷
    refused Errno.EAGAIN ∷
    Reply.Ok ∷
    Reply.Count 1 ∷
    got 1 (codes "b") ∷ []
unfolding computing
two_tables = refl

-- an exit with both ends open leaves nothing, and another process's pair as it was
exit_drops_both_ends : (played two_processes 0 (
    (1, pair) ∷
    (2, pair) ∷
    (1, send 0 (codes "a")) ∷
    (1, Request.Exit) ∷
    (2, Request.Exit) ∷ [])).descriptions
    ≡
    None ∷ None ∷ None ∷ None ∷ []
unfolding computing
exit_drops_both_ends = refl

exit_leaves_other_pairs : play two_processes 0 (
    (1, pair) ∷
    (2, pair) ∷
    (1, send 0 (codes "a")) ∷
    (2, send 0 (codes "b")) ∷
    (1, Request.Exit) ∷
    (2, recv 1 8) ∷
    (2, Request.Exit) ∷ [])
    ≡
    ends 0 1 ∷
    ends 0 1 ∷
    Reply.Count 1 ∷
    Reply.Count 1 ∷
    Reply.Ok ∷
    got 1 (codes "b") ∷
    Reply.Ok ∷ []
unfolding computing
exit_leaves_other_pairs = refl
