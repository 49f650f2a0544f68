-- Worked examples, evaluated: datagrams by an address and by an association, which wait for room; and a send with a right, which waits
-- where that is open, and is refused where it isn't.
use Rattle.std.specs.Prelude.{◌≡◌, ℕ, List, [], ◌∷◌, ◌++◌, replicate, Some, None, refl, codes}
use Rattle.ux_model.specs.Types.{Errno, Addr, SockType, SockOpt, Request, Reply, Entry}
use Rattle.ux_model.specs.Control.{rights_item, item_bytes}
use Rattle.ux_model.specs.Binding.{bind}
use Rattle.ux_model.specs.Connecting.{make_socket, connect}
use Rattle.ux_laws.proofs.Play.{Call, computing, made, replies, one_process, pair_of, send, recv, fd, flags}

abbrev to_box : Call
to_box = (1, Request.SendMsg (fd 1) (Some (Addr.Abstract (codes "box"))) [] [] (flags 0))

abbrev boxing : List Entry
boxing = made one_process 0 (
    (1, Request.Socket SockType.Dgram (record { 0 = 0 })) ∷
    (1, Request.Bind (fd 0) (Addr.Abstract (codes "box"))) ∷
    (1, Request.Socket SockType.Dgram (record { 0 = 0 })) ∷
    (replicate 17 to_box ++
    (1, Request.Connect (fd 1) (Addr.Abstract (codes "box"))) ∷
    (1, Request.Write (fd 1) (codes "x")) ∷
    (1, recv 0 1) ∷
    (1, Request.Write (fd 1) (codes "x")) ∷ []))

a_datagram_waits : replies boxing
    ≡ Reply.Fd (fd 0) ∷ Reply.Ok ∷ Reply.Fd (fd 1) ∷ (replicate 16 (Reply.Count 0) ++ Reply.Err Errno.EAGAIN ∷ Reply.Ok
    ∷ Reply.Err Errno.EAGAIN ∷ Reply.Received (flags 0) 0 [] [] (Some Addr.Unnamed) ∷ Reply.Count 1 ∷ [])
unfolding computing bind make_socket connect
a_datagram_waits = refl

-- a send of one byte, with a right to this number
abbrev pass : ℕ → Request
pass number = Request.SendMsg (fd 0) None (codes "c") (item_bytes (rights_item (number ∷ []))) (flags 0)

abbrev passing : List Entry
passing = made one_process 0 (
    (1, pair_of SockType.Stream) ∷
    (1, Request.SetOpt (fd 1) SockOpt.QueueLimit 2) ∷
    (1, send 0 (codes "ab")) ∷
    (1, pass 1) ∷
    (1, pass 9) ∷
    (1, Request.Read (fd 1) 8) ∷
    (1, pass 1) ∷ [])

a_right_waits : replies passing
    ≡ Reply.Fds (fd 0) (fd 1) ∷ Reply.Ok ∷ Reply.Count 2 ∷ Reply.Err Errno.EAGAIN ∷ Reply.Err Errno.EBADF ∷ Reply.Bytes (codes "ab")
    ∷ Reply.Count 1 ∷ []
unfolding computing
a_right_waits = refl
