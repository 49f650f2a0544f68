use Rattle.std.proofs.Common.{ap, subst, ◌∙◌}
use Rattle.std.proofs.lemmas.Bool.{or_parts}
use Rattle.ux_model.specs.History.{is_exit, is_off, is_fork}
use Rattle.ux_book.specs.Books.{KeptHistory, processes, is_last}
use Rattle.ux_book.specs.Sitting.{Answers}
use Rattle.ux_book.proofs.Sitting.{answered, called_shares, unmade_shares, made_by, as_many, no_fork}
use Rattle.ux_book.proofs.serial.Serial.make.Goals as goal

pub invariant_of-self-2 : goal.invariant_of-self-2
invariant_of-self-2 g c =
    let own = or_parts (is_last c.args.request.now) (is_fork c.args.request.now) c.requires in
    let ends = or_parts (is_exit c.args.request.now) (is_off c.args.request.now) own.0 in
    let kept = unmade_shares c.self.inside.book c.ask-asked.new.book c.self.inside.shares.items c.take.new.shares.items
    c.put.new.shares.items c.args.pid
    c.in-Some.share c.ask-asked.new.share c.self.invariant c.in-Some.ensures.share c.take.ensures.left c.put.ensures in
    answered c.ask-asked.result
    (λ reply e. let call = rw e at c.ask-asked.ensures.call in
    called_shares c.self.inside.book c.ask-asked.new.book c.self.inside.shares.items c.take.new.shares.items c.put.new.shares.items
    c.args.pid
    c.args.request.now reply c.in-Some.share c.ask-asked.new.share c.self.invariant ends.0 own.1 c.in-Some.ensures.share c.take.ensures.left
    c.put.ensures
    (record { k = _; released = _; adds = call.entry }) call.share)
    (λ e. let same = rw e at c.ask-asked.ensures.kept in kept same.book same.share)
    (λ f e. let same = rw e at c.ask-asked.ensures.same in kept same.book same.share)

pub returns-clause-made : goal.returns-clause-made
returns-clause-made g c =
    answered c.ask-asked.result
    (λ reply e. let call = rw e at c.ask-asked.ensures.call in
    rw e (subst (λ (b : KeptHistory). Answers b c.ask-asked.new.book c.args.pid c.args.request.now reply) c.self.view_is
    (made_by c.self.inside.book c.ask-asked.new.book c.self.inside.shares.items c.args.pid c.args.request.now reply c.in-Some.share
    c.self.invariant
    c.in-Some.ensures.share (record { k = _; released = _; adds = call.entry }))))
    (λ e. rw e tt)
    (λ f e. rw e tt)

pub returns-clause-many : goal.returns-clause-many
returns-clause-many g c =
    let own = or_parts (is_last c.args.request.now) (is_fork c.args.request.now) c.requires in
    answered c.ask-asked.result
    (λ reply e. let call = rw e at c.ask-asked.ensures.call in
    rw e (as_many c.self.inside.book c.ask-asked.new.book c.in-Some.share.pid c.args.request.now
    (record { reply = reply; answers = record { k = _; released = _; adds = call.entry } }) (no_fork c.args.request.now reply own.1)
    ∙ ap processes c.self.view_is))
    (λ e. let same = rw e at c.ask-asked.ensures.kept in rw e (ap processes same.book ∙ ap processes c.self.view_is))
    (λ f e. rw e tt)
