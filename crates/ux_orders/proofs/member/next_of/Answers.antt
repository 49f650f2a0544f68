use Rattle.std.proofs.Common.{drop, sym, ap, ◌∙◌}
use Rattle.ux_syntax.specs.Lines.{Line}
use Rattle.ux_orders.specs.Threads.{has_come}
use Rattle.ux_orders.proofs.Crewing.{at_line, owner, next_is_call, next_is_wait}
use Rattle.ux_orders.proofs.member.next_of.Goals as goal

pub returns-in-Call : goal.returns-in-Call
returns-in-Call g c =
    let l = c.index-lines-place.result in
    let lines = c.args.lines.now in
    next_is_call (has_come c.args.serial.now) c.args.pid.0 lines (drop c.args.from lines) l c.loop-place.place c.in-Call.field-0
    (at_line lines c.loop-place.place l c.loop-place-test.true c.index-lines-place.is)
    (owner c.args.pid _ l c.line.view_is (sym c.eq.ensures ∙ c.if-eq.true))
    (ap (λ (x : Line). x.act) (sym c.line.view_is) ∙ c.in-Call.is) c.loop-place.invariant

pub returns-then-not-has_come : goal.returns-then-not-has_come
returns-then-not-has_come g c =
    let l = c.index-lines-place.result in
    let lines = c.args.lines.now in
    next_is_wait (has_come c.args.serial.now) c.args.pid.0 lines (drop c.args.from lines) l c.loop-place.place
    c.in-Wait.other c.in-Wait.calls
    (at_line lines c.loop-place.place l c.loop-place-test.true c.index-lines-place.is)
    (owner c.args.pid _ l c.line.view_is (sym c.eq.ensures ∙ c.if-eq.true))
    (ap (λ (x : Line). x.act) (sym c.line.view_is) ∙ c.in-Wait.is)
    (ap (has_come c.args.serial.now c.in-Wait.other.0) (sym c.from.ensures) ∙ sym c.has_come.ensures ∙ c.if-not-has_come.true)
    c.loop-place.invariant
