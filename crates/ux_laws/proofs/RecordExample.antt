-- A worked example, evaluated: two datagrams, and a receive that cuts the first.
use Rattle.std.specs.Prelude.{◌≡◌, List, [], ◌∷◌, Some, refl, codes}
use Rattle.ux_model.specs.Types.{Addr, SockType, Reply, Entry}
use Rattle.ux_laws.specs.Records.{packets_sent, packets_taken}
use Rattle.ux_laws.proofs.Play.{computing, made, replies, one_process, pair_of, send, recv, peek, fd, flags}

abbrev calls : List Entry
calls = made one_process 0 ((1, pair_of SockType.Dgram) ∷ (1, send 0 (codes "abc")) ∷ (1, send 0 (codes "de")) ∷ (1, peek 1 8) ∷
    (1, recv 1 2) ∷ [])

what_was_sent : packets_sent one_process 1 calls
    ≡ record { call = 1; bytes = codes "abc"; from = Some Addr.Unnamed } ∷
    record { call = 2; bytes = codes "de"; from = Some Addr.Unnamed } ∷ []
unfolding computing
what_was_sent = refl

what_was_taken : packets_taken one_process 1 calls ≡ record { call = 1; bytes = codes "abc"; from = Some Addr.Unnamed } ∷ []
unfolding computing
what_was_taken = refl

-- the peek gives the whole, the receive two bytes and MSG_TRUNC
what_was_given : replies calls
    ≡ Reply.Fds (fd 0) (fd 1) ∷ Reply.Count 3 ∷ Reply.Count 2
    ∷ Reply.Received (flags 0) 3 (codes "abc") [] (Some Addr.Unnamed) ∷ Reply.Received (flags 2) 2 (codes "ab") [] (Some Addr.Unnamed) ∷ []
unfolding computing
what_was_given = refl
