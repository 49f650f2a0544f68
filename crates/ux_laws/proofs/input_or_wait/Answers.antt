use Rattle.ux_laws.proofs.Wakes.{input_or_wait}
use Rattle.ux_laws.proofs.input_or_wait.Goals as goal

pub returns : goal.returns
returns c = input_or_wait
