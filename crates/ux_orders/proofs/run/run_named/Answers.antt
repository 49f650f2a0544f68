use Rattle.ux_syntax.specs.Spelling.{plan_of}
use Rattle.ux_orders.proofs.Crewing.{begun_run}
use Rattle.ux_orders.proofs.run.run_named.Goals as goal

pub returns : goal.returns
returns g c = record {
  runs = begun_run g.W.BookName.boot (plan_of c.args.script.now) c.in_ok-entries.entries c.in_ok-into_history.field-0
      c.in_ok-entries.ensures.same c.in_ok-into_history.ensures.legal c.in_ok-entries.ensures.calls;
}
