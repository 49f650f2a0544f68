-- What `Slots` ends as, where a `&mut` to one of its values is returned.
use Rattle.std.specs.Prelude.{ℕ, Option}
use Rattle.std.specs.Borrow.{LendsIf, Fml, RattleType, MutBor}
use Rattle.ux_slots.specs.Held.{Held, with_value}
use Rattle.ux_slots.specs.contracts.slots.Slots.{the_row}

-- once the borrow r ends, d has the last value written through r; with no r all stays as it is
abbrev pub lends_value : (T : RattleType) → MutBor (Held T.Denot) → ℕ → Option (MutBor T.Denot) → Fml
lends_value T held d r = LendsIf (the_row T) T held r (with_value held.now d) held.now
