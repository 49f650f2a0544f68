use Rattle.ux_laws.proofs.NamesLeft.{calls_leave_paths_alone}
use Rattle.ux_laws.proofs.calls_leave_paths_alone.Goals as goal

pub returns : goal.returns
returns c = calls_leave_paths_alone
