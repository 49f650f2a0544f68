use Rattle.std.proofs.Common.{rules}
use Rattle.ux_script.proofs.write.put_some.Goals as goal

pub returns-in-Ok-eq0-clause-err : goal.returns-in-Ok-eq0-clause-err
returns-in-Ok-eq0-clause-err g c = search rules
