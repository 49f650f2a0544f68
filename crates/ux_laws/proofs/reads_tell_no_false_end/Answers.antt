use Rattle.ux_laws.proofs.Inputs.{reads_end_truly}
use Rattle.ux_laws.proofs.reads_tell_no_false_end.Goals as goal

pub returns : goal.returns
returns c = reads_end_truly
