use Rattle.ux_laws.proofs.Packets.{records_arrive_in_order}
use Rattle.ux_laws.proofs.records_come_in_order.Goals as goal

pub returns : goal.returns
returns c = records_arrive_in_order
