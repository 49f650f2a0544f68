use Rattle.ux_syntax.specs.Spelling.{plan_of}
use Rattle.ux_orders.proofs.Crewing.{whole_run, begun_run}
use Rattle.ux_orders.proofs.run.ended.Goals as goal

pub returns-then-has_live-clause-runs : goal.returns-then-has_live-clause-runs
returns-then-has_live-clause-runs g c =
    begun_run g.W.BookName.boot (plan_of c.args.script.now) c.in_ok-entries.entries c.in_ok-into_history.field-0
    c.in_ok-entries.ensures.same c.in_ok-into_history.ensures.legal c.in_ok-entries.ensures.calls

pub returns-clause-runs : goal.returns-clause-runs
returns-clause-runs g c =
    whole_run g.W.BookName.boot (plan_of c.args.script.now) c.in_ok-entries-2.entries c.in_ok-into_history-2.field-0
    c.in_ok-entries-2.ensures.same c.in_ok-into_history-2.ensures.legal c.in_ok-entries-2.ensures.calls
