use Rattle.std.proofs.Common.{ap, sym, subst, ◌∙◌}
use Rattle.ux_book.specs.Books.{KeptHistory}
use Rattle.ux_book.specs.Settling.{Exact, once_each}
use Rattle.ux_book.proofs.Settling.{whole_book, missing_book}
use Rattle.ux_book.proofs.book.Book.settle.Goals as goal

pub returns-then-not-is_each_once-clause-missing : goal.returns-then-not-is_each_once-clause-missing
returns-then-not-is_each_once-clause-missing g c =
    let made = c.process_count-count.ensures.count in
    let book = c.entry_count-entries.ensures in
    missing_book book.boot book.legal (subst
    (λ (b : KeptHistory). Exact b.entries c.args.spents.now) c.self.view_is c.confirm_all.ensures.exact) made
    (ap (once_each c.process_count-count.result) (sym c.confirm_all.ensures.spents) ∙ sym c.is_each_once.ensures
    ∙ c.if-not-is_each_once.true)

pub returns-clause-whole : goal.returns-clause-whole
returns-clause-whole g c =
    let made = c.process_count-count.ensures.count in
    let book = c.entry_count-entries.ensures in
    whole_book book.boot book.legal (subst (λ (b : KeptHistory). Exact b.entries c.args.spents.now) c.self.view_is
    c.confirm_all.ensures.exact) made (ap (once_each c.process_count-count.result) (sym c.confirm_all.ensures.spents)
    ∙ sym c.is_each_once.ensures ∙ c.if-not-is_each_once.false)
