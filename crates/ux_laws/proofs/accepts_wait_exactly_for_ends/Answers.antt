use Rattle.ux_laws.proofs.Progress.{accepts_wait_while}
use Rattle.ux_laws.proofs.accepts_wait_exactly_for_ends.Goals as goal

pub returns : goal.returns
returns c = accepts_wait_while
