use Rattle.ux_laws.proofs.Whole.{read_records_arrive_whole}
use Rattle.ux_laws.proofs.read_records_come_whole.Goals as goal

pub returns : goal.returns
returns c = read_records_arrive_whole
