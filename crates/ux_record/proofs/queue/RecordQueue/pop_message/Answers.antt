use Rattle.std.proofs.Common.{rules}
use Rattle.ux_record.proofs.queue.RecordQueue.pop_message.Goals as goal

pub returns-clause-first : goal.returns-clause-first
returns-clause-first g c = search rules

pub returns-clause-rest : goal.returns-clause-rest
returns-clause-rest g c = search rules
