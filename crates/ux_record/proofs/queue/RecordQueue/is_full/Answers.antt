use Rattle.std.proofs.Common.{rules}
use Rattle.ux_record.proofs.queue.RecordQueue.is_full.Goals as goal

pub returns : goal.returns
returns g c = search rules
