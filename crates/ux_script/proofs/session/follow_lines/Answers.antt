use Rattle.std.proofs.Common.{ap, subst, ◌∙◌}
use Rattle.std.proofs.lemmas.Result.{err_from_is_err_and}
use Rattle.ux_model.specs.State.{State}
use Rattle.ux_model.specs.History.{IsLegal}
use Rattle.ux_script.specs.Hearing.{heard_line}
use Rattle.ux_script.proofs.Following.{prints_then, breaks_here, breaks_on}
use Rattle.ux_script.proofs.Hearing.{hears_line, hears_all}
use Rattle.ux_script.proofs.session.follow_lines.Goals as goal

pub returns-in_err-next_line-clause-broken : goal.returns-in_err-next_line-clause-broken
returns-in_err-next_line-clause-broken g c =
    let legal = subst (λ (S : State). IsLegal S c.loop.serial.entries) c.loop.invariant.same_boot c.loop.invariant.made.legal in
    let broken = breaks_here c.args.serial.now.boot _ _ c.args.serial.now.entries c.loop.serial.entries legal c.loop.invariant.printed in
    let p = err_from_is_err_and c.from_residual.result c.from_residual.ensures.1 in
    rw p.1 broken

pub returns-then-not-branch-clause-heard : goal.returns-then-not-branch-clause-heard
returns-then-not-branch-clause-heard g c =
    let over = rw c.if-not-branch.true at c.in_ok-next_line.ensures.line in
    hears_all c.args.source.now c.loop.source c.next_line.new.self c.args.reader.now c.loop.reader c.next_line.new.text.items
    c.loop.invariant.heard over

pub returns-in_err-follow_line-clause-broken : goal.returns-in_err-follow_line-clause-broken
returns-in_err-follow_line-clause-broken g c =
    let broken = breaks_on _ _ _ _ _ _ _ c.loop.invariant.same_boot c.loop.invariant.printed c.in_err-follow_line.ensures.broken in
    let p = err_from_is_err_and c.from_residual-in_err-follow_line.result c.from_residual-in_err-follow_line.ensures.1 in
    rw p.1 broken

pub loop-preserved : goal.loop-preserved
loop-preserved g c =
    let read = rw c.if-not-branch.false at c.in_ok-next_line.ensures.line in
    let taken = c.in_ok-follow_line.ensures.heard
    ∙ ap (λ n. heard_line n c.loop.reader c.deref.result.now) c.number-number.ensures
    ∙ ap (heard_line c.next_line.new.self.number c.loop.reader) c.deref.ensures.value in
    record {
      heard = hears_line c.args.source.now c.loop.source c.next_line.new.self c.args.reader.now c.loop.reader c.follow_line.new.reader
          c.next_line.new.text.items c.loop.invariant.heard read taken;
      begun = c.in_ok-follow_line.ensures.begun;
      made = c.in_ok-follow_line.ensures.made;
      same_boot = c.in_ok-follow_line.ensures.boot ∙ c.loop.invariant.same_boot;
      printed = prints_then _ _ _ _ _ _ c.loop.invariant.printed c.in_ok-follow_line.ensures.printed;
    }

pub returns-clause-broken : goal.returns-clause-broken
returns-clause-broken g c =
    let legal = subst (λ (S : State). IsLegal S c.loop.serial.entries) c.loop.invariant.same_boot c.loop.invariant.made.legal in
    breaks_here c.args.serial.now.boot _ _ c.args.serial.now.entries c.loop.serial.entries legal c.loop.invariant.printed
