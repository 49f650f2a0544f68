use Rattle.std.proofs.Common.{length, map, refl, ap, sym, subst, ◌∙◌, arith, cond, ℕ, List, ◌+◌}
use Rattle.std.proofs.lemmas.List.{nil_from_length, length-map}
use Rattle.ux_model.specs.Types.{Entry}
use Rattle.ux_model.specs.History.{makes_one}
use Rattle.ux_book.specs.Trails.{Trailed}
use Rattle.ux_book.proofs.Appending.{Asked, ask, Stepped, Noting, Grown}
use Rattle.ux_book.proofs.Appending.{few_calls, all_handed_out, reply_fits, waits, waits_there}
use Rattle.ux_book.proofs.Appending.{unchanged, child_number, new_past, place_there, kept_is}
use Rattle.ux_book.proofs.Appending.{adds, book_after, enough_room, not_off, no_end}
use Rattle.ux_book.proofs.book.Book.append.Given.{Over}
use Rattle.ux_book.proofs.book.Book.append.Goals.{After-step-done}
use Rattle.ux_book.proofs.book.Book.append.Goals as goal

abbrev asked : (g : Over) → After-step-done g → Asked
asked g c = ask c.args.pid c.args.k c.args.request.now c.self.invariant.0 c.self.view_is c.requires.call

abbrev stepped : (g : Over) (c : After-step-done g) → Stepped (asked g c)
stepped g c = record {
  number = c.count-number.result;
  after = c.step-done.new.self;
  reply = c.step-done.result.0.reply;
  gone = map (λ r. r.0) c.step-done.new.released;
  number_is = c.count-number.ensures.count c.self.inside.trail.entries
      (c.in_ok-prepare.ensures.keeps c.self.inside.trail.entries c.self.invariant.1);
  step = c.step-done.ensures.step;
}

-- ---- where the call would have to wait

pub invariant_of-self-then-is_again : goal.invariant_of-self-then-is_again
invariant_of-self-then-is_again g c =
    let then = (goal.at.invariant_of-self-then-is_again g c).After-step-done in (
      unchanged (stepped g then) (sym c.is_again.ensures ∙ c.if-is_again.true) c.in_ok-prepare.ensures.more,
      c.in_ok-prepare.ensures.keeps c.self.inside.trail.entries c.self.invariant.1,
    )

pub returns-then-is_again-clause-again : goal.returns-then-is_again-clause-again
returns-then-is_again-clause-again g c =
    let then = (goal.at.returns-then-is_again-clause-again g c).After-step-done in
    waits_there (stepped g then) (sym c.is_again.ensures ∙ c.if-is_again.true)

pub returns-then-is_again-clause-idle : goal.returns-then-is_again-clause-idle
returns-then-is_again-clause-idle g c =
    let then = (goal.at.returns-then-is_again-clause-idle g c).After-step-done in
    let waited = waits (stepped g then) (sym c.is_again.ensures ∙ c.if-is_again.true) in
    record {
      book = c.self.view_is;
      token = refl {a = c.args.token.now};
      none = nil_from_length c.step-done.new.released (sym (length-map c.step-done.new.released (λ r. r.0)) ∙ ap length waited.none);
    }

-- ---- where it is an entry

pub keep-requires-clause-fits : goal.keep-requires-clause-fits
keep-requires-clause-fits g c =
    let then = (goal.at.keep-requires-clause-fits g c).After-step-done in
    reply_fits (stepped g then)

pub open_child-child-requires-clause-child : goal.open_child-child-requires-clause-child
open_child-child-requires-clause-child g c =
    let then = (goal.at.open_child-child-requires-clause-child g c).After-step-done in
    rw c.push-place.ensures.trail (child_number (stepped g then))

pub open_child-child-requires-clause-none : goal.open_child-child-requires-clause-none
open_child-child-requires-clause-none g c =
    let then = (goal.at.open_child-child-requires-clause-none g c).After-step-done in
    new_past (asked g then) _ c.requires.token.1 c.push-place.ensures.trail

pub returns-clause-fits : goal.returns-clause-fits
returns-clause-fits g c =
    let then = (goal.at.returns-clause-fits g c).After-step-done in
    let room = c.in_ok-prepare.ensures.room in
    few_calls (stepped g then) c.count-number.ensures.within (omega (arith, room))

-- ---- the book then

abbrev before : (g : Over) → goal.After-open_child-child g → After-step-done g
before g c = (goal.at.returns-clause-appended g c).After-step-done

abbrev noting : (g : Over) (c : goal.After-open_child-child g) → Noting (asked g (before g c)) (stepped g (before g c))
noting g c = record {
  who = c.args.token.now.pid;
  released = c.step-done.result.1;
  delivered = c.step-done.result.0.delivered;
  who_is = c.requires.token.1;
  released_is = c.step-done.ensures.numbers;
  delivered_is = c.step-done.ensures.delivered;
}

abbrev grown : (g : Over) (c : goal.After-open_child-child g) → Grown (asked g (before g c)) (stepped g (before g c)) (noting g c)
grown g c = record {
  trail = c.open_child-child.new.trail;
  own = c.self.inside.own;
  ended = c.self.inside.ended;
  room = g.K.Keeper.room c.prepare.new.self;
  space = g.K.Keeper.room c.keep.new.self;
  enough = enough_room (asked g (before g c)) c.process_count-room.ensures.count c.in_ok-prepare.ensures.room c.requires.last;
  left = c.keep.ensures.room;
  trail_is = c.open_child-child.ensures.trail
      ∙ ap (λ (t : Trailed). record t { given = t.given + cond {A = ℕ} (makes_one c.args.request.now c.step-done.result.0.reply) 1 0 })
      c.push-place.ensures.trail;
  own_id = refl;
  own_pid = refl;
  ends = no_end c.self.inside.ended c.args.request.now (not_off c.args.request.now c.requires.last);
}

pub invariant_of-self-2 : goal.invariant_of-self-2
invariant_of-self-2 g c = (
  book_after (grown g c),
  subst (λ (es : List Entry). g.K.Keeper.keeps c.keep.new.self es)
      (kept_is (grown g c))
      (c.keep.ensures.keeps c.self.inside.trail.entries (c.in_ok-prepare.ensures.keeps c.self.inside.trail.entries c.self.invariant.1)),
)

pub returns-clause-appended : goal.returns-clause-appended
returns-clause-appended g c = record {
  adds = adds (grown g c);
  token = c.push-place.ensures.token;
  place_is = c.push-place.ensures.place ∙ place_there (noting g c);
  handed_out = all_handed_out (asked g (before g c)) c.step-done.new.released c.step-done.ensures.handed_out;
}
