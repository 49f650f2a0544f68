use Rattle.std.proofs.Common.{◌≡◌, List, [], ◌++◌, drop, sym, ap, arith}
use Rattle.std.proofs.lemmas.List.{drop_all}
use Rattle.ux_model.specs.Types.{Pid}
use Rattle.ux_orders.specs.Lists.{pids_of}
use Rattle.ux_orders.proofs.order.begins_with.Goals as goal

pub returns : goal.returns
returns c =
    let rest = pids_of c.loop-pid.rest.now in
    let over : drop c.loop-pid.pid-index c.args.pids.now ≡ [] =
    (let past = c.loop-pid-test.false in drop_all c.loop-pid.pid-index c.args.pids.now (omega (arith, past))) in
    λ _. (rest, c.loop-pid.invariant rest (sym (ap (λ (t : List Pid). t ++ rest) over)))
