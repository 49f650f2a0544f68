use Rattle.std.proofs.Common.{Vec, Global, sym, ap, ◌∙◌, arith}
use Rattle.ux_model.specs.Types.{Pid}
use Rattle.ux_book.specs.Books.{processes}
use Rattle.ux_orders.specs.declared.chooser.Ready.{Ready}
use Rattle.ux_orders.specs.Crews.{Crewed}
use Rattle.ux_orders.proofs.Crewing.{ready_pushed, ready_skipped, all_ready}
use Rattle.ux_orders.proofs.crew.Crew.ready.Goals.{in-Some+in_ok-push, in_default}
use Rattle.ux_orders.proofs.crew.Crew.ready.Goals as goal

pub loop-number-preserved : goal.loop-number-preserved
loop-number-preserved g c =
    let book = c.args.self.now.book in
    let lines = c.args.self.now.lines in
    let so_far = c.loop-number.ready.items in
    elim c.match-ready_of.branch [
      | in-Some+in_ok-push w ↦ ready_pushed book lines c.loop-number.number so_far c.match-ready_of.ready.items w.in-Some.one
          (ap (λ (p : Pid). p.0) w.in-Some.ensures.some)
          (ap (λ (v : Vec Ready Global). v.items) w.ready-is ∙ w.in_ok-push.ensures.items) c.loop-number.invariant
      | in_default w ↦ ready_skipped book lines c.loop-number.number so_far c.match-ready_of.ready.items w.in_default.ensures.none
          (ap (λ (v : Vec Ready Global). v.items) w.ready-is) c.loop-number.invariant
    ]

pub returns : goal.returns
returns g c =
    all_ready c.args.self.now.book c.args.self.now.lines c.loop-number.number c.loop-number.ready.items
    (let past = c.loop-number-test.false in
    let many = ap (λ (v : Crewed). processes v.book) (sym c.self.view_is) ∙ sym c.process_count-count.ensures.count in
    omega (arith, past, many))
    c.loop-number.invariant
