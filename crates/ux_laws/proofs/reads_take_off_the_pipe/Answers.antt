use Rattle.ux_laws.proofs.FileReads.{reads_take_off_the_pipe}
use Rattle.ux_laws.proofs.reads_take_off_the_pipe.Goals as goal

pub returns : goal.returns
returns c = reads_take_off_the_pipe
