use Rattle.std.proofs.lemmas.Result.{IfOk-weaker}
use Rattle.ux_syntax.specs.Spelling.{plan_of}
use Rattle.ux_orders.proofs.Breaking.{legal_of}
use Rattle.ux_orders.proofs.run.run_order.Goals as goal

pub returns-clause-legal : goal.returns-clause-legal
returns-clause-legal g c =
    IfOk-weaker c.run_named.result _ _ (λ ran run. legal_of c.args.kernel (plan_of c.args.script.now) ran run) c.run_named.ensures.runs
