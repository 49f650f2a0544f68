use Rattle.std.proofs.Common.{◌≡◌, true, length, ap, ◌∙◌, arith}
use Rattle.ux_book.specs.Trails.{Trailed, Owned, claim}
use Rattle.ux_book.proofs.Trails.{gives_last, marked, new_place}
use Rattle.ux_book.proofs.trail.Trail.push.Goals as goal

pub split_seat-seat-requires : goal.split_seat-seat-requires
split_seat-seat-requires c =
    let one : c.self.inside.table.shared.table_id.words ≡ 1 = c.self.invariant.0 in
    let v = c.give_back.new.keeper.me.0 in
    let whole : v.keeps ≡ true = ap (λ m. m.0.keeps) c.give_back.ensures.keeper ∙ ap (λ m. m.0.keeps) c.note.ensures.keeper
    ∙ ap (λ m. m.0.keeps) c.take_in.ensures.keeper in (
      c.give_back.ensures.same.0 ∙ c.note.ensures.same ∙ c.take_in.ensures.same
          ∙ c.self.invariant.1,
      omega (arith, one),
      λ s h at. gives_last s.views c.give_back.new.keeper.id v whole h at,
    )

pub returns-clause-place : goal.returns-clause-place
returns-clause-place c =
    let split = c.split_seat-seat.ensures in
    let old = c.self.inside.keeper.me.0 in
    let own = c.token.inside.seat.me.0 in
    let place = new_place c.take_in.new.keeper.me.0 c.note.new.keeper.me.0 c.give_back.new.keeper.me.0 c.split_seat-seat.result.me.0 old.all
    old.given own.pid c.args.k own.past c.args.request.now c.args.done.now.reply c.args.released.now c.args.done.now.delivered
    (ap (λ m. m.0) c.take_in.ensures.keeper) (ap (λ m. m.0) c.note.ensures.keeper) (ap (λ m. m.0) c.give_back.ensures.keeper)
    (ap (λ m. m.0) split.4) in
    marked _ _ _ _ _
    (split.3 ∙ c.give_back.ensures.same.0 ∙ c.note.ensures.same ∙ c.take_in.ensures.same ∙ c.self.invariant.1
    ∙ ap (λ (t : Trailed). t.id) c.self.view_is)
    (place ∙ (λ i. claim (length (ap (λ (t : Trailed). t.entries) c.self.view_is i))
    (record {
      pid = record { 0 = ap (λ (o : Owned). o.pid) c.token.view_is i };
      k = c.args.k;
      request = c.args.request.now;
      reply =
          c.args.done.now.reply;
      released = c.args.released.now;
      delivered = c.args.done.now.delivered;
    })))
