-- Worked examples, evaluated: descriptor limits, and a full queue.
use Rattle.std.specs.Prelude.{◌≡◌, [], ◌∷◌, length, replicate, refl, codes}
use Rattle.ux_model.specs.Types.{Errno, Reply}
use Rattle.ux_model.specs.State.{table_of}
use Rattle.ux_model.specs.Boot.{boot_state}
use Rattle.ux_model.proofs.Examples.Play.{computing, play, one_process, process, pair, send, recv, shut, ends, got, refused}

-- a pair needs two free numbers, and takes the lowest
one_free_number : play (boot_state [] (process 3 ∷ [])) 0 (
    (1, pair) ∷
    (1, pair) ∷
    (1, shut 0) ∷
    (1, pair) ∷
    (1, pair) ∷
    (1, shut 2) ∷
    (1, pair) ∷
    (1, shut 3) ∷ [])
    ≡
    ends 0 1 ∷
    refused Errno.EMFILE ∷
    Reply.Ok ∷
    ends 0 2 ∷
    refused Errno.EMFILE ∷
    Reply.Ok ∷
    refused Errno.EMFILE ∷
    refused Errno.EBADF ∷ []
unfolding computing
one_free_number = refl

no_room_for_a_pair : play (boot_state [] (process 1 ∷ [])) 0 ((1, pair) ∷ []) ≡ refused Errno.EMFILE ∷ []
unfolding computing
no_room_for_a_pair = refl

-- a limit of 0 counts as 1, and one above 4,096 as 4,096
least_limit : length (table_of (boot_state [] (process 0 ∷ [])) 1) ≡ 1
least_limit = refl

limit_of_one : length (table_of (boot_state [] (process 1 ∷ [])) 1) ≡ 1
limit_of_one = refl

kept_limit : length (table_of (boot_state [] (process 4095 ∷ [])) 1) ≡ 4095
kept_limit = refl

greatest_limit : length (table_of (boot_state [] (process 4097 ∷ [])) 1) ≡ 4096
greatest_limit = refl

-- of 70,000 bytes 65,536 fit, then none, and one once one was taken
full_queue : play one_process 0 (
    (1, pair) ∷
    (1, send 0 (replicate 70000 120)) ∷
    (1, send 0 (codes "y")) ∷
    (1, send 0 []) ∷
    (1, recv 1 1) ∷
    (1, send 0 (codes "yz")) ∷ [])
    ≡
    ends 0 1 ∷
    Reply.Count 65536 ∷
    refused Errno.EAGAIN ∷
    Reply.Count 0 ∷
    got 1 (codes "x") ∷
    Reply.Count 1 ∷ []
unfolding computing
full_queue = refl
