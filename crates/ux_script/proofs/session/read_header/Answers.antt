use Rattle.std.proofs.Common.{ap, sym, subst, ◌∙◌}
use Rattle.ux_syntax.specs.Reading.{no_lines}
use Rattle.ux_script.specs.Hearing.{heard_line, HearsOn}
use Rattle.ux_script.proofs.Hearing.{hears_from, hears_line, hears_all, hears_whole, none_left}
use Rattle.ux_script.proofs.session.read_header.Goals as goal

pub loop-init : goal.loop-init
loop-init g c =
    subst (HearsOn c.args.source.now no_lines c.args.source.now) (sym c.new-reader.ensures) (hears_from c.args.source.now no_lines)

pub loop-preserved : goal.loop-preserved
loop-preserved g c =
    let read = rw c.if-not-branch.false at c.in_ok-next_line.ensures.line in
    let taken = c.in_ok-take_line.ensures.heard
    ∙ ap (λ n. heard_line n c.loop.reader c.deref.result.now) c.number.ensures
    ∙ ap (heard_line c.next_line.new.self.number c.loop.reader) c.deref.ensures.value in
    hears_line c.args.source.now c.loop.source c.next_line.new.self no_lines c.loop.reader c.take_line.new.reader
    c.next_line.new.text.items c.loop.invariant read taken

pub returns-then-not-branch-clause-lines : goal.returns-then-not-branch-clause-lines
returns-then-not-branch-clause-lines g c =
    let over = rw c.if-not-branch.true at c.in_ok-next_line.ensures.line in
    hears_whole c.args.source.now c.next_line.new.self no_lines c.loop.reader
    (hears_all c.args.source.now c.loop.source c.next_line.new.self no_lines c.loop.reader c.next_line.new.text.items c.loop.invariant over)

pub returns-then-not-branch-clause-end : goal.returns-then-not-branch-clause-end
returns-then-not-branch-clause-end g c =
    let over = rw c.if-not-branch.true at c.in_ok-next_line.ensures.line in
    λ unbegun. none_left c.args.source.now c.next_line.new.self no_lines c.loop.reader
    (hears_all c.args.source.now c.loop.source c.next_line.new.self no_lines c.loop.reader c.next_line.new.text.items c.loop.invariant over)
