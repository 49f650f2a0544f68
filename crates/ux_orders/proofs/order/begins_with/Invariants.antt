use Rattle.std.proofs.Common.{◌≡◌, List, ◌++◌, drop}
use Rattle.ux_model.specs.Types.{Pid}
use Rattle.ux_orders.specs.Lists.{pids_of}
use Rattle.ux_orders.proofs.order.begins_with.Given as goal

-- what follows the processes that are left follows all of them
abbrev pub invariant-loop-pid : goal.invariant-loop-pid
invariant-loop-pid l = (more : List Pid) → pids_of l.rest ≡ drop l.pid-index l.pids ++ more → pids_of l.entries ≡ l.pids ++ more
