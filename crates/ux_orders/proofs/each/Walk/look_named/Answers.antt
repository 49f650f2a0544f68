use Rattle.std.proofs.Common.{◌≡◌, ◌<◌, ◌^◌, List, sym, ap, ◌∙◌, subst, arith}
use Rattle.ux_syntax.specs.Spelling.{plan_of, known_count}
use Rattle.ux_orders.specs.Threads.{has_choice, HasCalls}
use Rattle.ux_orders.specs.Crews.{Crewed, AreHeld}
use Rattle.ux_orders.specs.declared.chooser.Ready.{Ready}
use Rattle.ux_orders.specs.declared.each.Walk.{Walk}
use Rattle.ux_orders.proofs.Covering.{keeps_old, keeps_own}
use Rattle.ux_orders.proofs.Threads.{IsSure}
use Rattle.ux_orders.proofs.Walking.{grows_noted, grows_added, grows_then, walk_noted, walk_added, not_broken_off, run_of, stop_leads}
use Rattle.ux_orders.proofs.Walking.{go_leads, end_leads}
use Rattle.ux_orders.proofs.each.Walk.look_named.Goals as goal

pub returns-then-not-branch-clause-grows : goal.returns-then-not-branch-clause-grows
returns-then-not-branch-clause-grows g c =
    grows_noted (plan_of c.args.script.now) c.args.self.now c.note.new.self c.note.ensures.all c.note.ensures.rest

pub returns-then-goes_on-clause-grows : goal.returns-then-goes_on-clause-grows
returns-then-goes_on-clause-grows g c =
    grows_noted (plan_of c.args.script.now) c.args.self.now c.note-2.new.self c.note-2.ensures.all c.note-2.ensures.rest

pub returns-clause-grows : goal.returns-clause-grows
returns-clause-grows g c =
    let s = plan_of c.args.script.now in
    let noted = grows_noted s c.args.self.now c.note-2.new.self c.note-2.ensures.all c.note-2.ensures.rest in
    let added = c.in_ok-add.ensures in
    grows_then s c.args.self.now c.note-2.new.self _ noted
    (grows_added s c.note-2.new.self c.add.new.self added.all
    (λ ran has. keeps_old (known_count s) _ _ c.in_ok-ran.ran ran added.keeps has))

pub add-requires-clause-ended : goal.add-requires-clause-ended
add-requires-clause-ended g c = not_broken_off g.W.BookName.boot c.make_any.new.self.book.entries c.in_ok-ran.ran c.in_ok-ran.ensures.calls

pub returns-then-not-branch-clause-walk : goal.returns-then-not-branch-clause-walk
returns-then-not-branch-clause-walk g c =
    walk_noted g.W.BookName.boot (plan_of c.args.script.now) c.args.self.now c.note.new.self c.note.ensures.rest c.requires.walk

pub returns-then-goes_on-clause-walk : goal.returns-then-goes_on-clause-walk
returns-then-goes_on-clause-walk g c =
    walk_noted g.W.BookName.boot (plan_of c.args.script.now) c.args.self.now c.note-2.new.self c.note-2.ensures.rest c.requires.walk

pub returns-clause-walk : goal.returns-clause-walk
returns-clause-walk g c =
    let boot = g.W.BookName.boot in
    let s = plan_of c.args.script.now in
    let old = c.note-2.new.self in
    let ran = c.in_ok-ran.ran in
    let noted = walk_noted boot s c.args.self.now old c.note-2.ensures.rest c.requires.walk in
    let room : old.found.orders < old.begun =
    subst (λ (walk : Walk). walk.found.orders < walk.begun) (sym c.note-2.ensures.rest) c.requires.room in
    let run = run_of boot s c.make_any.new.self.book.entries ran c.in_ok-ran.ensures.runs c.in_ok-ran.ensures.calls in
    walk_added boot s old c.add.new.self ran noted room run c.in_ok-add.ensures.keeps c.in_ok-add.ensures.count

pub returns-then-not-branch-clause-leads : goal.returns-then-not-branch-clause-leads
returns-then-not-branch-clause-leads g c = λ all.
    let crew = c.make_all.new.self in
    let lines : crew.lines ≡ c.args.script.now.lines.items =
    c.in_ok-make_all.ensures.lines ∙ ap (λ (old : Crewed). old.lines) c.in_ok-crew.ensures ∙ c.deref.ensures.value in
    let sure : IsSure crew =
    record {
      threaded = c.entries.ensures.threaded;
      sure = ap has_choice (sym c.entries.ensures.entries) ∙ c.note.ensures.sure all;
    } in
    stop_leads g.W.BookName.boot (plan_of c.args.script.now) _ c.args.pids.now _ crew c.entries.ensures.boot lines sure
    (c.in_ok-make_all.ensures.held c.if-not-branch.true)

pub returns-then-goes_on-clause-leads : goal.returns-then-goes_on-clause-leads
returns-then-goes_on-clause-leads g c = λ all.
    let old = c.make_all.new.self in
    let new = c.make_any.new.self in
    let lines : old.lines ≡ c.args.script.now.lines.items =
    c.in_ok-make_all.ensures.lines ∙ ap (λ (crew : Crewed). crew.lines) c.in_ok-crew.ensures ∙ c.deref.ensures.value in
    let at : old.book.boot ≡ g.W.BookName.boot =
    c.in_ok-make_all.ensures.boot ∙ ap (λ (crew : Crewed). crew.book.boot) c.in_ok-crew.ensures ∙ c.requires.named in
    let sure : IsSure new =
    record {
      threaded = c.entries-2.ensures.threaded;
      sure = ap has_choice (sym c.entries-2.ensures.entries) ∙ c.note-2.ensures.sure all;
    } in
    go_leads g.W.BookName.boot (plan_of c.args.script.now) _ c.args.pids.now _ old new at lines sure
    (c.in_ok-make_all.ensures.made c.if-not-branch.false)
    c.in_ok-ready.ensures (c.in_ok-goes_on.ensures.made c.if-goes_on.true)

pub add-requires-clause-room : goal.add-requires-clause-room
add-requires-clause-room g c =
    let same : c.note-2.new.self.found.orders ≡ c.args.self.now.found.orders =
    ap (λ (walk : Walk). walk.found.orders) c.note-2.ensures.rest in
    let room : c.args.self.now.found.orders < c.args.self.now.begun = c.requires.room in
    let fits : c.args.self.now.begun < 2 ^ 64 = c.requires.fits in
    omega (arith, same, room, fits)

pub returns-clause-leads : goal.returns-clause-leads
returns-clause-leads g c = λ all.
    let s = plan_of c.args.script.now in
    let boot = g.W.BookName.boot in
    let old = c.make_all.new.self in
    let new = c.make_any.new.self in
    let ran = c.in_ok-ran.ran in
    let lines : old.lines ≡ c.args.script.now.lines.items =
    c.in_ok-make_all.ensures.lines ∙ ap (λ (crew : Crewed). crew.lines) c.in_ok-crew.ensures ∙ c.deref.ensures.value in
    let at : old.book.boot ≡ boot =
    c.in_ok-make_all.ensures.boot ∙ ap (λ (crew : Crewed). crew.book.boot) c.in_ok-crew.ensures ∙ c.requires.named in
    let kept : new ≡ old = c.in_ok-goes_on.ensures.kept c.if-goes_on.false in
    let sure_new : IsSure new =
    record {
      threaded = c.entries-2.ensures.threaded;
      sure = ap has_choice (sym c.entries-2.ensures.entries) ∙ c.note-2.ensures.sure (sym c.in_ok-add.ensures.all ∙ all);
    } in
    let held : AreHeld old c.in_ok-ready.ready.items =
    subst (λ (ready : List Ready). AreHeld old ready) c.deref-2.ensures.value (c.in_ok-goes_on.ensures.held c.if-goes_on.false) in
    let run = run_of boot s new.book.entries ran c.in_ok-ran.ensures.runs c.in_ok-ran.ensures.calls in
    end_leads boot s _ c.args.pids.now _ _ old ran at lines (subst IsSure kept sure_new)
    (c.in_ok-make_all.ensures.made c.if-not-branch.false)
    c.in_ok-ready.ensures held run (subst (λ (crew : Crewed). HasCalls boot crew.book.entries ran) kept c.in_ok-ran.ensures.calls)
    (keeps_own (known_count s) _ _ ran run.ended c.in_ok-add.ensures.keeps)
