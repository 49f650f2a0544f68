use Rattle.ux_laws.proofs.Progress.{reads_wait_while}
use Rattle.ux_laws.proofs.reads_wait_exactly_for_input.Goals as goal

pub returns : goal.returns
returns c = reads_wait_while
