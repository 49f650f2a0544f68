use Rattle.std.proofs.Common.{rules}
use Rattle.ux_record.proofs.queue.RecordQueue.send.Goals as goal

pub returns-in-Err-clause-name_back : goal.returns-in-Err-clause-name_back
returns-in-Err-clause-name_back g c = search rules
