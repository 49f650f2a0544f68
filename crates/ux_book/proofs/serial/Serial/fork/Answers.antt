use Rattle.std.proofs.Common.{Option, not, ap, subst, ◌∙◌}
use Rattle.ux_model.specs.Types.{Request}
use Rattle.ux_book.specs.Books.{KeptHistory}
use Rattle.ux_book.specs.Pasts.{Caller}
use Rattle.ux_book.specs.Sitting.{Answers, Forks}
use Rattle.ux_book.proofs.Sitting.{wider, childless, placed, unmade_shares, made_by}
use Rattle.ux_book.proofs.serial.Serial.fork.Goals.{in-Some-child, in_default-child}
use Rattle.ux_book.proofs.serial.Serial.fork.Goals as goal

pub put-requires-in-Some-child : goal.put-requires-in-Some-child
put-requires-in-Some-child g c =
    (placed c.self.inside.book c.fork-forked.new.book c.self.inside.shares.items c.push.new.self.items c.take.new.shares.items
    c.put.new.shares.items _ c.args.pid c.in-Ok.reply c.in-Some.share c.fork-forked.new.share c.in-Some-child.child
    c.self.invariant c.push.ensures.items (c.is_err.ensures.negation ∙ ap not c.if-is_err.false) c.fork-forked.ensures.legal
    c.in-Some.ensures.share c.take.ensures.left c.put.ensures
    (subst (λ (o : Option Caller). Forks c.self.inside.book c.fork-forked.new.book c.in-Some.share.pid c.in-Ok.reply o) c.in-Some-child.is
    c.in-Ok.ensures.entry) c.in-Ok.ensures.share).fits

pub invariant_of-self-in-Some-child : goal.invariant_of-self-in-Some-child
invariant_of-self-in-Some-child g c =
    (placed c.self.inside.book c.fork-forked.new.book c.self.inside.shares.items c.push.new.self.items c.take.new.shares.items
    c.put.new.shares.items _ c.args.pid c.in-Ok.reply c.in-Some.share c.fork-forked.new.share c.in-Some-child.child
    c.self.invariant c.push.ensures.items (c.is_err.ensures.negation ∙ ap not c.if-is_err.false) c.fork-forked.ensures.legal
    c.in-Some.ensures.share c.take.ensures.left c.put.ensures
    (subst (λ (o : Option Caller). Forks c.self.inside.book c.fork-forked.new.book c.in-Some.share.pid c.in-Ok.reply o) c.in-Some-child.is
    c.in-Ok.ensures.entry) c.in-Ok.ensures.share).shares
    c.put-in-Some-child.new.shares.items c.put-in-Some-child.ensures

pub invariant_of-self-in-Ok : goal.invariant_of-self-in-Ok
invariant_of-self-in-Ok g c =
    let wide = wider c.self.inside.book c.self.inside.shares.items c.push.new.self.items _ c.self.invariant c.push.ensures.items
    (c.is_err.ensures.negation ∙ ap not c.if-is_err.false) in
    childless c.self.inside.book c.fork-forked.new.book c.push.new.self.items c.take.new.shares.items c.put.new.shares.items c.args.pid
    c.in-Ok.reply c.in-Some.share c.fork-forked.new.share
    wide c.in-Some.ensures.share c.take.ensures.left c.put.ensures
    (subst (λ (o : Option Caller). Forks c.self.inside.book c.fork-forked.new.book c.in-Some.share.pid c.in-Ok.reply o)
    c.in_default-child.is c.in-Ok.ensures.entry) c.in-Ok.ensures.share

pub invariant_of-self-in-Err : goal.invariant_of-self-in-Err
invariant_of-self-in-Err g c =
    let wide = wider c.self.inside.book c.self.inside.shares.items c.push.new.self.items _ c.self.invariant c.push.ensures.items
    (c.is_err.ensures.negation ∙ ap not c.if-is_err.false) in
    unmade_shares c.self.inside.book c.fork-forked.new.book c.push.new.self.items c.take.new.shares.items c.put.new.shares.items c.args.pid
    c.in-Some.share c.fork-forked.new.share
    wide c.in-Some.ensures.share c.take.ensures.left c.put.ensures c.in-Err.ensures.same c.in-Err.ensures.kept

pub returns-after-child-clause-made : goal.returns-after-child-clause-made
returns-after-child-clause-made g c =
    let wide = wider c.self.inside.book c.self.inside.shares.items c.push.new.self.items _ c.self.invariant c.push.ensures.items
    (c.is_err.ensures.negation ∙ ap not c.if-is_err.false) in
    let made : Answers c.args.self.now c.fork-forked.new.book c.args.pid Request.Fork c.in-Ok.reply =
    subst (λ (b : KeptHistory). Answers b c.fork-forked.new.book c.args.pid Request.Fork c.in-Ok.reply) c.self.view_is
    (made_by c.self.inside.book c.fork-forked.new.book c.push.new.self.items c.args.pid Request.Fork c.in-Ok.reply c.in-Some.share wide
    c.in-Some.ensures.share c.in-Ok.ensures.entry.one) in
    elim c.match-child.branch [
      | in-Some-child w ↦ rw w.self-is made
      | in_default-child w ↦ rw w.self-is made
    ]
