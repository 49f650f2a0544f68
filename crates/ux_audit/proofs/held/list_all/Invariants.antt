use Rattle.ux_audit.specs.Flags.{flag_at}
use Rattle.ux_audit.specs.Holdings.{AreListed}
use Rattle.ux_audit.proofs.held.list_all.Given as goal

abbrev pub invariant-loop-pid : goal.invariant-loop-pid
invariant-loop-pid l = AreListed (flag_at l.tables) l.pid 0 l.held.items
