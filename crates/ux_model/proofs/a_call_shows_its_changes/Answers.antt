use Rattle.ux_model.proofs.Tables.CallShows.{step_changes_tables}
use Rattle.ux_model.proofs.a_call_shows_its_changes.Goals as goal

pub returns : goal.returns
returns c = step_changes_tables
