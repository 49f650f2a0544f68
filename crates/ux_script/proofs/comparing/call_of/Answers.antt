use Rattle.std.proofs.Common.{refl, sym, ◌∙◌, rules}
use Rattle.std.specs.Option.{option_map}
use Rattle.ux_trace.specs.Echoes.{answer}
use Rattle.ux_script.proofs.Answering.{is_line_number, found, passed_over, no_line, no_call}
use Rattle.ux_script.proofs.comparing.call_of.Goals as goal

pub loop-entry-init : goal.loop-entry-init
loop-entry-init c = refl

pub returns-in_err-number : goal.returns-in_err-number
returns-in_err-number c =
    let none = no_line c.args.line c.loop-entry.left.now c.args.lines.now c.args.history.now c.loop-entry.entry-index c.entry-item.result
    c.loop-entry.invariant
    c.in_err-number.ensures.cases c.loop-entry-test.true c.entry-item.is in
    rw c.from_residual.ensures none

pub returns-then-eq : goal.returns-then-eq
returns-then-eq c =
    found c.args.line c.loop-entry.left.now c.args.lines.now c.in_ok-number.more.now c.in_ok-number.number.now c.args.history.now
    c.loop-entry.entry-index c.entry-item.result
    c.loop-entry.invariant c.in_ok-number.ensures.cases.0 c.loop-entry-test.true c.entry-item.is
    (is_line_number c.args.line c.in_ok-number.number.now ∙ sym c.if-eq.ensures)

pub loop-entry-preserved : goal.loop-entry-preserved
loop-entry-preserved c =
    passed_over c.args.line c.loop-entry.left.now c.args.lines.now c.in_ok-number.more.now c.in_ok-number.number.now c.args.history.now
    c.loop-entry.entry-index c.entry-item.result
    c.loop-entry.invariant c.in_ok-number.ensures.cases.0 c.loop-entry-test.true c.entry-item.is
    (is_line_number c.args.line c.in_ok-number.number.now ∙ sym c.eq.ensures ∙ c.if-eq.false)

pub returns : goal.returns
returns c = no_call c.args.line c.loop-entry.left.now c.args.lines.now c.args.history.now c.loop-entry.entry-index c.loop-entry.invariant
    c.loop-entry-test.false
