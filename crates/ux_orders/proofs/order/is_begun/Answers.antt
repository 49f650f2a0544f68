use Rattle.std.proofs.Common.{◌≡◌, List, [], ◌++◌, drop, sym, ap, arith}
use Rattle.std.proofs.lemmas.List.{drop_all}
use Rattle.ux_model.specs.Types.{Entry}
use Rattle.ux_orders.specs.Lists.{pids_of}
use Rattle.ux_orders.proofs.order.is_begun.Goals as goal

pub returns : goal.returns
returns c =
    let left = c.loop-entry.left.now in
    let over : drop c.loop-entry.entry-index c.args.entries.now ≡ [] =
    (let past = c.loop-entry-test.false in drop_all c.loop-entry.entry-index c.args.entries.now (omega (arith, past))) in
    λ _. (left, c.loop-entry.invariant left (sym (ap (λ (t : List Entry). pids_of t ++ left) over)))
