use Rattle.std.proofs.Common.{map, ap, subst, ◌∙◌, ◌++◌, ◌∷◌, [], List, refl}
use Rattle.ux_model.specs.Types.{Reply, Entry}
use Rattle.ux_model.specs.History.{is_off}
use Rattle.ux_book.specs.Books.{is_last}
use Rattle.ux_book.proofs.Appending.{Asked, ask, Stepped, Noting, Grown, few_calls}
use Rattle.ux_book.proofs.Appending.{exits, kept_is, adds_ok, book_after, no_end}
use Rattle.ux_book.proofs.Appending.{last_room, last_trail, room_to_exit}
use Rattle.ux_book.proofs.book.Book.append_last.Given.{Over}
use Rattle.ux_book.proofs.book.Book.append_last.Goals.{After-step-done}
use Rattle.ux_book.proofs.book.Book.append_last.Goals as goal

abbrev asked : (g : Over) → After-step-done g → Asked
asked g c = ask c.args.pid c.args.k c.args.request c.self.invariant.0 c.self.view_is c.requires.call

abbrev stepped : (g : Over) (c : After-step-done g) → Stepped (asked g c)
stepped g c = record {
  number = c.count-number.result;
  after = c.step-done.new.self;
  reply = c.step-done.result.0.reply;
  gone = map (λ r. r.0) c.step-done.new.released;
  number_is = c.count-number.ensures.count c.self.inside.trail.entries c.self.invariant.1;
  step = c.step-done.ensures.step;
}

pub keep_last-requires : goal.keep_last-requires
keep_last-requires g c =
    let then = (goal.at.keep_last-requires g c).After-step-done in
    record { room = room_to_exit (stepped g then) c.requires.exit }

pub returns-clause-fits : goal.returns-clause-fits
returns-clause-fits g c =
    let then = (goal.at.returns-clause-fits g c).After-step-done in
    few_calls (stepped g then) c.count-number.ensures.within (room_to_exit (stepped g then) c.requires.exit)

-- ---- the book then

abbrev before : (g : Over) → goal.After-keep_last g → After-step-done g
before g c = (goal.at.returns-clause-adds g c).After-step-done

abbrev noting : (g : Over) (c : goal.After-keep_last g) → Noting (asked g (before g c)) (stepped g (before g c))
noting g c = record {
  who = c.args.token.now.pid;
  released = c.step-done.result.1;
  delivered = c.step-done.result.0.delivered;
  who_is = c.requires.token.1;
  released_is = c.step-done.ensures.numbers;
  delivered_is = c.step-done.ensures.delivered;
}

abbrev grown : (g : Over) (c : goal.After-keep_last g) → Grown (asked g (before g c)) (stepped g (before g c)) (noting g c)
grown g c = record {
  trail = c.push.new.self;
  own = c.self.inside.own;
  ended = c.self.inside.ended;
  room = g.K.Keeper.room c.self.inside.keeper;
  space = g.K.Keeper.room c.keep_last.new.self;
  enough = last_room (asked g (before g c)) (ap is_last c.requires.exit);
  left = c.keep_last.ensures.room;
  trail_is = last_trail (noting g c) (ap is_last c.requires.exit) c.push.ensures.trail;
  own_id = refl;
  own_pid = refl;
  ends = no_end c.self.inside.ended c.args.request (ap is_off c.requires.exit);
}

pub invariant_of-self : goal.invariant_of-self
invariant_of-self g c = (
  book_after (grown g c),
  subst (λ (es : List Entry). g.K.Keeper.keeps c.keep_last.new.self es)
      (ap (λ (e : Entry). c.self.inside.trail.entries ++ e ∷ []) c.last_entry.ensures ∙ kept_is (grown g c))
      (c.keep_last.ensures.keeps c.self.inside.trail.entries c.self.invariant.1),
)

pub returns-clause-adds : goal.returns-clause-adds
returns-clause-adds g c = adds_ok (grown g c) (exits (stepped g (before g c)) c.requires.exit)

pub returns-clause-token : goal.returns-clause-token
returns-clause-token g c = c.push.ensures.token
    ∙ ap (λ (y : Reply). record c.args.token.now { past = c.args.token.now.past ++ record { request = c.args.request; reply = y } ∷ [] })
    (exits (stepped g (before g c)) c.requires.exit)
