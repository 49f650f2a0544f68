use Rattle.ux_laws.proofs.Whole.{records_arrive_whole}
use Rattle.ux_laws.proofs.records_come_whole.Goals as goal

pub returns : goal.returns
returns c = records_arrive_whole
