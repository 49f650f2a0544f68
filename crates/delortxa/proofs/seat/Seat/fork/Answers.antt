use Rattle.std.proofs.Common.{rules, ◌≡◌, ◌∙◌, sym, subst, false, None}
use Rattle.ux_model.specs.Types.{Request, Reply}
use Rattle.ux_model.specs.ReplyKinds.{is_child}
use Rattle.ux_book.specs.declared.fault.CallFault.{CallFault}
use Rattle.delortxa.specs.Answering.{IsOther}
use Rattle.delortxa.specs.Happening.{Happens}
use Rattle.delortxa.specs.Replying.{reply_happens}
use Rattle.delortxa.proofs.Calling.{explains}
use Rattle.delortxa.proofs.Seatings.{happens, no_child, answered, erred}
use Rattle.delortxa.proofs.seat.Seat.fork.Goals.{in-Ok+in-Some, in-Ok+in-None, in-Err}
use Rattle.delortxa.proofs.seat.Seat.fork.Goals as goal

pub returns-clause-failed : goal.returns-clause-failed
returns-clause-failed g c = elim c.match-fork.branch [
  | in-Ok+in-Some w ↦ answered c.match-fork.result _ _ w.result-is
  | in-Ok+in-None w ↦
      let made : Happens g.W.BookName.boot c.args.self.now c.fork.new.self Request.Fork w.in-Ok.reply false = search (rules, happens) in
      erred c.match-fork.result _ _ w.result-is
      (explains is_child (λ reply. Happens g.W.BookName.boot c.args.self.now c.fork.new.self Request.Fork reply false)
      (λ f. f ≡ CallFault.NoMemory)
      c.args.self.now c.fork.new.self w.in-Ok.reply w.other_reply.result made
      (subst (λ e. IsOther is_child w.in-Ok.reply e) (sym w.other_reply.ensures)
      (no_child w.in-Ok.reply (sym w.in-None.is ∙ w.in-Ok.ensures.child)))
      (reply_happens g.W.BookName.boot c.args.self.now c.fork.new.self Request.Fork w.in-Ok.reply false made))
  | in-Err w ↦ erred c.match-fork.result _ _ w.result-is (search rules)
]
