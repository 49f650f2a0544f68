-- The number that a write gives to a counter.
use Rattle.std.specs.Prelude.{ℕ, Bool, not, ◌&&◌, nat_lt, List, length, take}
use Rattle.std.specs.Int.{w64, from_le_bytes}
use Rattle.ux_model.specs.Limits.{counter_limit}
use Rattle.ux_model.specs.Object.{counter_len}

-- its first bytes as a number, the lowest first
abbrev pub given : List ℕ → ℕ
given bytes = from_le_bytes w64 (take counter_len bytes)

-- there are so many, and the number may be added to some value
abbrev pub can_add : List ℕ → Bool
can_add bytes = not (nat_lt (length bytes) counter_len) && not (nat_lt counter_limit (given bytes))
