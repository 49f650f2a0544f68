use Rattle.ux_laws.proofs.FileReads.{reads_give_the_file}
use Rattle.ux_laws.proofs.reads_give_the_file.Goals as goal

pub returns : goal.returns
returns c = reads_give_the_file
