use Rattle.std.proofs.Common.{◌≡◌, ◌<◌, ℕ, Some}
use Rattle.std.specs.List.{slice_get}
use Rattle.ux_book.specs.Receipts.{Slip}
use Rattle.ux_book.proofs.book.Book.stand_all.Given as goal

-- those before were compared
abbrev pub invariant-loop-receipt : goal.invariant-loop-receipt
invariant-loop-receipt g l =
    (l.self ≡ l.initial.self)
    × (l.receipts ≡ l.initial.receipts)
    × ((k : ℕ) (s : Slip) → k < l.receipt-index → slice_get l.initial.receipts k ≡ Some s →
    slice_get l.initial.self.entries s.number ≡ Some s.entry)
