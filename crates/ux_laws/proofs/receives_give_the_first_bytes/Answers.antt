use Rattle.ux_laws.proofs.Inputs.{receives_give_the_first}
use Rattle.ux_laws.proofs.receives_give_the_first_bytes.Goals as goal

pub returns : goal.returns
returns c = receives_give_the_first
