use Rattle.std.proofs.Common.{◌≡◌, List, ◌++◌, drop}
use Rattle.ux_model.specs.Types.{Pid}
use Rattle.ux_orders.specs.Lists.{pids_of}
use Rattle.ux_orders.proofs.order.is_begun.Given as goal

-- what the calls that are left lack of the list, all lack
abbrev pub invariant-loop-entry : goal.invariant-loop-entry
invariant-loop-entry l = (more : List Pid) → l.left ≡ pids_of (drop l.entry-index l.entries) ++ more → l.pids ≡ pids_of l.entries ++ more
