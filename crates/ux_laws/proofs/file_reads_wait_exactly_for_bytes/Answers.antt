use Rattle.ux_laws.proofs.FileWaits.{file_reads_wait_while}
use Rattle.ux_laws.proofs.file_reads_wait_exactly_for_bytes.Goals as goal

pub returns : goal.returns
returns c = file_reads_wait_while
