use Rattle.ux_laws.proofs.NoWay.{strangers_change_nothing}
use Rattle.ux_laws.proofs.strangers_change_no_file.Goals as goal

pub returns : goal.returns
returns c = strangers_change_nothing
