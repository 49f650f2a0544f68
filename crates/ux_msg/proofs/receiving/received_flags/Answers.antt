use Rattle.std.proofs.Common.{rules}
use Rattle.ux_msg.proofs.receiving.received_flags.Goals as goal

pub returns-then-ends_record : goal.returns-then-ends_record
returns-then-ends_record c = search rules
