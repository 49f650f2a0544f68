use Rattle.std.proofs.Common.{rules}
use Rattle.ux_cmsg.proofs.credentials.ErrnoFromCredError.from.Goals as goal

pub returns-in-NotOwn : goal.returns-in-NotOwn
returns-in-NotOwn c = search rules
