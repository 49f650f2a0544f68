-- What is held at a history's end.
use Rattle.std.specs.Prelude.{◌≡◌, ◌⊎◌, ◌↔◌, ℕ, ◌<◌, Bool, true, List, Option, is_some}
use Rattle.std.specs.List.{AllPairs, Contains}
use Rattle.ux_model.specs.Types.{Pid, Fd}
use Rattle.ux_model.specs.Process.{pid_of, fd_of}
use Rattle.ux_model.specs.State.{State}
use Rattle.ux_model.specs.Giving.{is_held}

-- number k of process q comes before number n of process p
abbrev pub IsBefore : ℕ → ℕ → ℕ → ℕ → Type 0
IsBefore q k p n = (q < p) ⊎ ((q ≡ p) × (k < n))

abbrev pub Precedes : Pid × Fd → Pid × Fd → Type 0
Precedes g h = IsBefore g.0.0 g.1.0 h.0.0 h.1.0

-- the pairs of process and number that stand in a table, each once, rising
pub record AreHoldings (S : State) (pairs : List (Pid × Fd)) : Type 0 where
  pub each : (p n : ℕ) → Contains pairs (pid_of p, fd_of n) ↔ (is_held S p n ≡ true)
  pub rising : AllPairs Precedes pairs

-- so far as number n of process p, by the flags of what is open
pub record AreListed (flags : ℕ → ℕ → Option Bool) (p n : ℕ) (pairs : List (Pid × Fd)) : Type 0 where
  pub only : (q k : ℕ) → Contains pairs (pid_of q, fd_of k) → (is_some (flags q k) ≡ true) × IsBefore q k p n
  pub all : (q k : ℕ) → is_some (flags q k) ≡ true → IsBefore q k p n → Contains pairs (pid_of q, fd_of k)
  pub rising : AllPairs Precedes pairs
