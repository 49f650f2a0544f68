use Rattle.std.proofs.Common.{◌≡◌, ◌<◌, ℕ, Some}
use Rattle.std.specs.List.{slice_get}
use Rattle.ux_book.specs.Pasts.{Caller, calls_by}
use Rattle.ux_book.proofs.account.confirm_all.Given as goal

-- those before were compared
abbrev pub invariant-loop-spent : goal.invariant-loop-spent
invariant-loop-spent g l =
    (l.trail ≡ l.initial.trail)
    × (l.spents ≡ l.initial.spents)
    × ((k : ℕ) (s : Caller) → k < l.spent-index → slice_get l.initial.spents k ≡ Some s → calls_by s.pid.0 l.initial.trail.entries ≡ s.past)
