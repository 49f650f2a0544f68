-- A worked example, evaluated: two sends to a stream, a peek and a receive.
use Rattle.std.specs.Prelude.{◌≡◌, List, [], ◌∷◌, refl, codes}
use Rattle.ux_model.specs.Types.{SockType, Entry}
use Rattle.ux_model.specs.Message.{all_bytes}
use Rattle.ux_model.specs.History.{replay}
use Rattle.ux_laws.specs.Streams.{bytes_sent, bytes_received}
use Rattle.ux_laws.proofs.Flows.{waiting_at}
use Rattle.ux_laws.proofs.Play.{computing, made, one_process, pair_of, send, recv, peek}

abbrev calls : List Entry
calls = made one_process 0 ((1, pair_of SockType.Stream) ∷ (1, send 0 (codes "hi")) ∷ (1, send 0 (codes "you")) ∷ (1, peek 1 4) ∷
    (1, recv 1 4) ∷ [])

what_was_sent : bytes_sent one_process 1 calls ≡ codes "hiyou"
unfolding computing
what_was_sent = refl

what_was_received : bytes_received one_process 1 calls ≡ codes "hiyo"
unfolding computing
what_was_received = refl

what_waits : all_bytes (waiting_at (replay one_process calls) 1) ≡ codes "u"
unfolding computing
what_waits = refl
