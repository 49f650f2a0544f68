use Rattle.std.proofs.Common.{ap, ◌∙◌}
use Rattle.ux_book.specs.Books.{KeptHistory}
use Rattle.ux_orders.proofs.Crewing.{made_more, stops_at}
use Rattle.ux_orders.proofs.crew.Crew.make_all.Goals as goal

pub returns-then-not-branch-clause-held : goal.returns-then-not-branch-clause-held
returns-then-not-branch-clause-held g c = λ _.
    stops_at c.loop-pid.self c.make_next.new.self c.args.pids.now c.loop-pid.pid-index (record { 0 = 0 }) c.loop-pid-test.true
    (c.in_ok-make_next.ensures.kept c.if-not-branch.true) c.loop-pid.invariant.made (c.in_ok-make_next.ensures.held c.if-not-branch.true)

pub loop-pid-preserved : goal.loop-pid-preserved
loop-pid-preserved g c =
    let steps = c.in_ok-make_next.ensures.made c.if-not-branch.false in
    record {
      made = made_more c.loop-pid.self c.make_next.new.self c.args.pids.now c.loop-pid.pid-index (record { 0 = 0 }) c.loop-pid-test.true
          steps c.loop-pid.invariant.made;
      boot = ap (λ (b : KeptHistory). b.boot) steps.book ∙ c.loop-pid.invariant.boot;
      lines = steps.lines ∙ c.loop-pid.invariant.lines;
    }
