use Rattle.std.proofs.Common.{◌+◌, [], ℕ, List, ap, sym, subst, ◌∙◌}
use Rattle.ux_model.specs.Types.{Entry}
use Rattle.ux_book.specs.Pasts.{calls_by}
use Rattle.ux_book.specs.Trails.{Trailed}
use Rattle.ux_book.proofs.Appending.{first_book}
use Rattle.ux_book.proofs.book.open.Goals as goal

pub invariant_of-book : goal.invariant_of-book
invariant_of-book g c = (
  first_book g.W.BookName.boot c.args.kernel g.W.BookName.trail c.deal.new.trail c.open-own.result (g.K.Keeper.room c.args.keeper)
      c.requires.boots c.requires.named
      (c.in-Ok.ensures.trail ∙ ap (λ (n : ℕ). record { id = g.W.BookName.trail; entries = []; given = n + 1 })
      c.process_count.ensures.count)
      (c.open-own.ensures.token ∙ ap (λ (t : Trailed). record { id = t.id; pid = t.given; past = calls_by t.given t.entries })
      c.requires.trail) c.requires.room,
  subst (λ (es : List Entry). g.K.Keeper.keeps c.args.keeper es) (ap (λ (t : Trailed). t.entries) (sym c.in-Ok.ensures.trail))
      c.requires.keeps,
)
