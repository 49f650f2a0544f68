use Rattle.ux_laws.proofs.Packets.{records_arrive_once}
use Rattle.ux_laws.proofs.no_record_comes_twice.Goals as goal

pub returns : goal.returns
returns c = records_arrive_once
