use Rattle.std.proofs.Common.{◌≡◌, ◌++◌, length}
use Rattle.ux_book.proofs.copies.copy_entries.Given as goal

-- the copies so far, and the entries that are left, are all entries
abbrev pub invariant-loop-entry : goal.invariant-loop-entry
invariant-loop-entry l = l.copies.items ++ l.left ≡ l.entries

abbrev pub decreases-loop-entry : goal.decreases-loop-entry
decreases-loop-entry l = length l.left
