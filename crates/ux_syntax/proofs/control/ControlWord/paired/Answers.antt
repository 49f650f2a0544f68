use Rattle.std.proofs.Common.{rules}
use Rattle.ux_syntax.proofs.control.ControlWord.paired.Goals as goal

pub returns-in-Rights-Credentials : goal.returns-in-Rights-Credentials
returns-in-Rights-Credentials c = search rules
