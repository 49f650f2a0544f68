use Rattle.ux_laws.proofs.LeftAlone.{calls_leave_tables_alone}
use Rattle.ux_laws.proofs.calls_leave_tables_alone.Goals as goal

pub returns : goal.returns
returns c = calls_leave_tables_alone
