-- The ends that wait at a listening socket until accept(2) takes them, and how many may (listen(2)).
use Rattle.std.specs.Prelude.{ℕ, min, max, List, [], ◌∷◌, ◌++◌, ℤ, pos, negsuc}
use Rattle.ux_model.specs.Limits.{backlog_limit}

pub record Backlog : Type 0 where
  -- with so many ends or more it is full; listening again may leave more
  pub limit : ℕ
  -- by the numbers of their descriptions, the oldest first
  pub pending : List ℕ

-- the limit that a backlog stands for: one below 1 counts as 1, above the greatest as that
abbrev pub backlog_of : ℤ → ℕ
backlog_of (pos n) = max 1 (min backlog_limit n)
backlog_of (negsuc n) = 1

-- with one more end, which waits behind all others
abbrev pub with_pending : Backlog → ℕ → Backlog
with_pending b d = record b { pending = b.pending ++ d ∷ [] }
