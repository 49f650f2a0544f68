use Rattle.std.proofs.Common.{map, ap, subst, ◌∙◌, ◌++◌, ◌∷◌, [], List, ◌≡◌, refl, true, arith}
use Rattle.ux_model.specs.Types.{Request, Entry}
use Rattle.ux_book.specs.Books.{KeptHistory, ends_of}
use Rattle.ux_book.specs.Trails.{Owned}
use Rattle.ux_book.proofs.Appending.{Asked, ask, Stepped, Noting, Grown}
use Rattle.ux_book.proofs.Appending.{all_handed_out, ends_well, kept_is, adds_ok, book_after}
use Rattle.ux_book.proofs.Appending.{last_room, last_trail, may_end}
use Rattle.ux_book.proofs.book.Book.end.Given.{Over}
use Rattle.ux_book.proofs.book.Book.end.Goals.{After-step-done}
use Rattle.ux_book.proofs.book.Book.end.Goals as goal

abbrev asked : (g : Over) → After-step-done g → Asked
asked g c = ask (record { 0 = 0 }) 0 Request.Off c.self.invariant.0 c.self.view_is
    (may_end c.self.invariant.0 c.self.view_is c.requires.gone c.requires.first)

abbrev stepped : (g : Over) (c : After-step-done g) → Stepped (asked g c)
stepped g c = record {
  number = c.count-number.result;
  after = c.step-done.new.self;
  reply = c.step-done.result.0.reply;
  gone = map (λ r. r.0) c.step-done.new.released;
  number_is = c.count-number.ensures.count c.self.inside.trail.entries c.self.invariant.1;
  step = c.step-done.ensures.step;
}

-- ---- the book then

abbrev before : (g : Over) → goal.After-self-1 g → After-step-done g
before g c = (goal.at.returns g c).After-step-done

abbrev noting : (g : Over) (c : goal.After-self-1 g) → Noting (asked g (before g c)) (stepped g (before g c))
noting g c = record {
  who = c.self.inside.own.pid;
  released = c.step-done.result.1;
  delivered = c.step-done.result.0.delivered;
  who_is = c.self.invariant.0.own_pid;
  released_is = c.step-done.ensures.numbers;
  delivered_is = c.step-done.ensures.delivered;
}

abbrev grown : (g : Over) (c : goal.After-self-1 g) → Grown (asked g (before g c)) (stepped g (before g c)) (noting g c)
grown g c = record {
  trail = c.push.new.self;
  own = c.push.new.token;
  ended = true;
  room = g.K.Keeper.room c.self.inside.keeper;
  space = g.K.Keeper.room c.keep_last.new.self;
  enough = last_room (asked g (before g c)) refl;
  left = c.keep_last.ensures.room;
  trail_is = last_trail (noting g c) refl c.push.ensures.trail;
  own_id = ap (λ (o : Owned). o.id) c.push.ensures.token;
  own_pid = ap (λ (o : Owned). o.pid) c.push.ensures.token;
  ends =
      let ends = c.self.invariant.0.ends in
      let first : ends_of c.self.inside.trail.entries ≡ 0 = ap (λ (b : KeptHistory). ends_of b.entries) c.self.view_is ∙ c.requires.first in
      omega (arith, ends, first);
}

pub invariant_of-self : goal.invariant_of-self
invariant_of-self g c = (
  book_after (grown g c),
  subst (λ (es : List Entry). g.K.Keeper.keeps c.keep_last.new.self es)
      (ap (λ (e : Entry). c.self.inside.trail.entries ++ e ∷ []) c.last_entry.ensures ∙ kept_is (grown g c))
      (c.keep_last.ensures.keeps c.self.inside.trail.entries c.self.invariant.1),
)

pub returns : goal.returns
returns g c = record {
  entry = adds_ok (grown g c) (ends_well (stepped g (before g c)) refl);
  handed_out = all_handed_out (asked g (before g c)) c.step-done.new.released c.step-done.ensures.handed_out;
}
