-- Worked examples, evaluated: a child's poll that waits for input, for room or for the end of input, until its parent sends, reads and
-- shuts down; and one for an end at a listener, until a connect.
use Rattle.std.specs.Prelude.{◌≡◌, ℕ, pos, true, List, [], ◌∷◌, map, refl, codes}
use Rattle.ux_model.specs.Types.{Errno, Addr, PollFd, PollFlags, SockType, SockOpt, Mode, Request, Reply, Entry}
use Rattle.ux_model.specs.Binding.{bind}
use Rattle.ux_model.specs.Connecting.{make_socket, listen, connect}
use Rattle.ux_model.specs.Readiness.{socket_conditions}
use Rattle.ux_model.specs.Polling.{poll_many}
use Rattle.ux_laws.proofs.Play.{computing, made, replies, one_process, pair_of, send, fd}

-- a descriptor of a poll, and a poll that waits for these events, by number, of two
abbrev asked : ℕ → ℕ → PollFd
asked n events = record { fd = fd n; events = record { 0 = events } }

abbrev poll : ℕ → ℕ → Request
poll first second = Request.PollMany (asked 0 first ∷ asked 1 second ∷ []) true

abbrev told : List ℕ → Reply
told found = Reply.Polled (map (λ n. let f : PollFlags = record { 0 = n } in f) found)

abbrev moving : List Entry
moving = made one_process 0 (
    (1, pair_of SockType.Stream) ∷
    (1, Request.SetOpt (fd 1) SockOpt.QueueLimit 1) ∷
    (1, Request.Fork) ∷
    (2, poll 0 1) ∷
    (1, send 0 (codes "a")) ∷
    (2, poll 0 1) ∷
    (2, poll 2 0) ∷
    (1, Request.Read (fd 1) 1) ∷
    (2, poll 2 0) ∷
    (2, poll 0 4) ∷
    (1, Request.Shutdown (fd 0) Mode.Write) ∷
    (2, poll 0 4) ∷ [])

a_poll_is_woken : replies moving
    ≡ Reply.Fds (fd 0) (fd 1) ∷ Reply.Ok ∷ Reply.Child (record { 0 = 2 }) ∷ Reply.Err Errno.EAGAIN ∷ Reply.Count 1 ∷ told (0 ∷ 1 ∷ [])
    ∷ Reply.Err Errno.EAGAIN ∷ Reply.Bytes (codes "a") ∷ told (2 ∷ 0 ∷ []) ∷ Reply.Err Errno.EAGAIN ∷ Reply.Ok
    ∷ told (0 ∷ 4 ∷ []) ∷ []
unfolding computing socket_conditions poll_many
a_poll_is_woken = refl

abbrev listening : List Entry
listening = made one_process 0 (
    (1, Request.Socket SockType.Stream (record { 0 = 0 })) ∷
    (1, Request.Bind (fd 0) (Addr.Abstract (codes "door"))) ∷
    (1, Request.Listen (fd 0) (pos 1)) ∷
    (1, Request.PollMany (asked 0 1 ∷ []) true) ∷
    (1, Request.Socket SockType.Stream (record { 0 = 0 })) ∷
    (1, Request.Connect (fd 1) (Addr.Abstract (codes "door"))) ∷
    (1, Request.PollMany (asked 0 1 ∷ []) true) ∷ [])

an_end_is_told : replies listening
    ≡ Reply.Fd (fd 0) ∷ Reply.Ok ∷ Reply.Ok ∷ Reply.Err Errno.EAGAIN ∷ Reply.Fd (fd 1) ∷ Reply.Ok ∷ told (1 ∷ []) ∷ []
unfolding computing bind make_socket listen connect socket_conditions poll_many
an_end_is_told = refl
