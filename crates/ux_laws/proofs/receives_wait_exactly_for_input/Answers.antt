use Rattle.ux_laws.proofs.Progress.{receives_wait_while}
use Rattle.ux_laws.proofs.receives_wait_exactly_for_input.Goals as goal

pub returns : goal.returns
returns c = receives_wait_while
