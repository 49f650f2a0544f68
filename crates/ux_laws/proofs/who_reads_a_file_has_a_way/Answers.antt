use Rattle.ux_laws.proofs.NoWay.{reads_have_a_way}
use Rattle.ux_laws.proofs.who_reads_a_file_has_a_way.Goals as goal

pub returns : goal.returns
returns c = reads_have_a_way
