-- Worked examples, evaluated: poll(2) of several descriptors.
use Rattle.std.specs.Prelude.{◌≡◌, ℕ, Bool, true, false, List, [], ◌∷◌, map, refl, codes}
use Rattle.ux_model.specs.Types.{Errno, PollFd, PollFlags, Request, Reply}
use Rattle.ux_model.proofs.Examples.Play.{computing, play, one_process, fd, pair, send, recv, shut, ends, got, refused}

-- each a descriptor and the bits of what is asked for
abbrev asked : ℕ × ℕ → PollFd
asked a = record { fd = fd a.0; events = record { 0 = a.1 } }

abbrev set : ℕ → PollFlags
set bits = record { 0 = bits }

abbrev now : List (ℕ × ℕ) → Request
now fds = Request.PollMany (map asked fds) false

abbrev waiting : List (ℕ × ℕ) → Request
waiting fds = Request.PollMany (map asked fds) true

abbrev found : List ℕ → Reply
found sets = Reply.Polled (map set sets)

-- What is asked for is told alone, and a closed number and a lost peer in any case. Where nothing is there to be told, one that waits
-- would wait.
several : play one_process 0 (
    (1, pair) ∷
    (1, waiting ((0, 1) ∷ (1, 1) ∷ [])) ∷
    (1, now ((0, 1) ∷ (1, 1) ∷ [])) ∷
    (1, now ((0, 3) ∷ (1, 0) ∷ (7, 0) ∷ [])) ∷
    (1, send 0 (codes "x")) ∷
    (1, waiting ((0, 1) ∷ (1, 5) ∷ [])) ∷
    (1, recv 1 1) ∷
    (1, waiting ((1, 1) ∷ [])) ∷
    (1, shut 0) ∷
    (1, waiting ((1, 0) ∷ [])) ∷
    (1, waiting ((1, 4) ∷ (1, 2) ∷ [])) ∷
    (1, waiting []) ∷
    (1, now []) ∷ [])
    ≡
    ends 0 1 ∷
    refused Errno.EAGAIN ∷
    found (0 ∷ 0 ∷ []) ∷
    found (2 ∷ 0 ∷ 32 ∷ []) ∷
    Reply.Count 1 ∷
    found (0 ∷ 1 ∷ []) ∷
    got 1 (codes "x") ∷
    refused Errno.EAGAIN ∷
    Reply.Ok ∷
    found (8 ∷ []) ∷
    found (12 ∷ 10 ∷ []) ∷
    refused Errno.EAGAIN ∷
    found [] ∷ []
unfolding computing
several = refl

-- 64 descriptors at once are the most
abbrev many : ℕ → List (ℕ × ℕ)
many n = map (λ i. (0, 0)) (list_of n)
  where
    list_of : ℕ → List ℕ
    list_of ℕ.zero = []
    list_of (ℕ.suc k) = k ∷ list_of k

too_many : play one_process 0 ((1, now (many 65)) ∷ []) ≡ refused Errno.EINVAL ∷ []
unfolding computing
too_many = refl
