use Rattle.std.proofs.Common.{◌≡◌, length}
use Rattle.ux_script.proofs.places.numbers_of.Given as goal

abbrev pub invariant-loop-entry : goal.invariant-loop-entry
invariant-loop-entry l = length l.lines.items ≡ l.entry-index
