use Rattle.std.proofs.Common.{rules}
use Rattle.ux_cmsg.proofs.reading.with_item.Goals as goal

pub returns-in-Rights : goal.returns-in-Rights
returns-in-Rights c = search rules

pub returns-in_default : goal.returns-in_default
returns-in_default c = search rules
