use Rattle.ux_laws.proofs.Inputs.{reads_give_the_first}
use Rattle.ux_laws.proofs.reads_give_the_first_bytes.Goals as goal

pub returns : goal.returns
returns c = reads_give_the_first
