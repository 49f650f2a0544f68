use Rattle.std.proofs.Common.{◌≡◌, ◌<◌, ◌≤◌, List, length, get_or, set, Some, sym, ap, ◌∙◌, subst, arith}
use Rattle.std.specs.List.{slice_get}
use Rattle.std.proofs.lemmas.List.{set-get_or}
use Rattle.std.proofs.lemmas.Option.{slice_get_within}
use Rattle.ux_book.specs.Books.{KeptHistory}
use Rattle.ux_book.specs.Receipts.{Slip}
use Rattle.ux_book.proofs.Settling.{stands_more}
use Rattle.ux_book.proofs.book.Book.stand_all.Goals as goal

pub loop-receipt-preserved : goal.loop-receipt-preserved
loop-receipt-preserved g c =
    let i = c.loop-receipt.invariant in
    let w = c.receipt-item.result in
    let slips = c.args.receipts.now in (
      c.confirm.ensures.book ∙ i.0,
      ap (λ (x : Slip). set c.loop-receipt.receipts c.loop-receipt.receipt-index x) c.confirm.ensures.receipt
          ∙ (set-get_or c.loop-receipt.receipts c.loop-receipt.receipt-index w ∙ i.1),
      stands_more c.args.self.now.entries slips c.loop-receipt.receipt-index w
          (subst (λ (l : List Slip). w ≡ get_or l c.loop-receipt.receipt-index w) i.1 c.receipt-item.is)
          (subst (λ (h : KeptHistory). slice_get h.entries w.number ≡ Some w.entry) i.0
          (subst (λ (x : Slip). slice_get c.loop-receipt.self.entries x.number ≡ Some x.entry) (sym c.receipt-item.is)
          c.confirm.ensures.stands)) i.2,
    )

pub returns-clause-stand : goal.returns-clause-stand
returns-clause-stand g c = λ k s at.
    let end : length c.args.receipts.now ≤ c.loop-receipt.receipt-index = c.loop-receipt-test.false in
    let within : k < length c.args.receipts.now = slice_get_within c.args.receipts.now k s at in
    c.loop-receipt.invariant.2 k s (omega arith) at
