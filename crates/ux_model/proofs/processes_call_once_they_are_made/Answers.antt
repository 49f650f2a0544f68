use Rattle.ux_model.proofs.Processes.Numbering.{no_call_before_made}
use Rattle.ux_model.proofs.processes_call_once_they_are_made.Goals as goal

pub returns : goal.returns
returns c = no_call_before_made
