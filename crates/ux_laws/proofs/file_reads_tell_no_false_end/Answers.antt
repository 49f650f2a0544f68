use Rattle.ux_laws.proofs.FileReads.{file_reads_end_truly}
use Rattle.ux_laws.proofs.file_reads_tell_no_false_end.Goals as goal

pub returns : goal.returns
returns c = file_reads_end_truly
