use Rattle.std.proofs.Common.{◌≡◌, ℕ, List, ◌++◌}
use Rattle.std.specs.Fmt.{HasWritten, IsPlainFormatter}
use Rattle.ux_trace.specs.Trace.{spaced}
use Rattle.ux_trace.proofs.entry.SpacedListDisplay.fmt.Given as goal

-- the numbers that are left follow those that were written
abbrev pub invariant-loop-number : goal.invariant-loop-number
invariant-loop-number g l =
    (written : List ℕ) × (written ++ l.number-iterator ≡ l.initial.number-iterator)
    × (IsPlainFormatter l.initial.f → HasWritten g.W.Write.write_str_gives l.initial.f (spaced written) l.f)
