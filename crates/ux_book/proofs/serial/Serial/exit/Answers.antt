use Rattle.std.proofs.Common.{refl, ap, subst, ◌∙◌}
use Rattle.ux_model.specs.Types.{Request, Reply}
use Rattle.ux_book.specs.Books.{KeptHistory, processes}
use Rattle.ux_book.specs.Sitting.{Answers}
use Rattle.ux_book.proofs.Sitting.{exit_shares, made_by, as_many}
use Rattle.ux_book.proofs.serial.Serial.exit.Goals as goal

pub invariant_of-self-2 : goal.invariant_of-self-2
invariant_of-self-2 g c =
    exit_shares c.self.inside.book c.exit-spent.new.self c.self.inside.shares.items c.take.new.shares.items c.args.pid c.in-Some.share
    c.self.invariant c.in-Some.ensures.share c.take.ensures.left (record { k = _; released = _; adds = c.exit-spent.ensures.entry })

pub returns-clause-made : goal.returns-clause-made
returns-clause-made g c =
    subst (λ (b : KeptHistory). Answers b c.exit-spent.new.self c.args.pid Request.Exit Reply.Ok) c.self.view_is
    (made_by c.self.inside.book c.exit-spent.new.self c.self.inside.shares.items c.args.pid Request.Exit Reply.Ok c.in-Some.share
    c.self.invariant c.in-Some.ensures.share (record { k = _; released = _; adds = c.exit-spent.ensures.entry }))

pub returns-clause-many : goal.returns-clause-many
returns-clause-many g c =
    as_many c.self.inside.book c.exit-spent.new.self c.in-Some.share.pid Request.Exit
    (record { reply = Reply.Ok; answers = record { k = _; released = _; adds = c.exit-spent.ensures.entry } }) refl
    ∙ ap processes c.self.view_is
