use Rattle.ux_laws.proofs.Wakes.{inputs_come}
use Rattle.ux_laws.proofs.input_comes.Goals as goal

pub returns : goal.returns
returns c = inputs_come
