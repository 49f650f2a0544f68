use Rattle.std.proofs.Common.{subst}
use Rattle.std.proofs.lemmas.Result.{IfOk-weaker}
use Rattle.ux_model.specs.Boot.{boot_state}
use Rattle.ux_syntax.specs.Spelling.{Plan}
use Rattle.ux_orders.specs.Threads.{KnowsAll}
use Rattle.delortxa.proofs.orders.explore_each.Goals as goal

pub returns-clause-all : goal.returns-clause-all
returns-clause-all c =
    IfOk-weaker c.explore_each.result _ _
    (λ found knows all.
    subst (λ (s : Plan). KnowsAll (boot_state c.args.boot.now.objects s.procs) s found.outcomes.items) c.in_ok-script.ensures (knows all))
    c.explore_each.ensures.all
