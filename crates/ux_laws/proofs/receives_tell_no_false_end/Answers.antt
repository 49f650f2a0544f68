use Rattle.ux_laws.proofs.Inputs.{receives_end_truly}
use Rattle.ux_laws.proofs.receives_tell_no_false_end.Goals as goal

pub returns : goal.returns
returns c = receives_end_truly
