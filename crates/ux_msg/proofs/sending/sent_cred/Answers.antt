use Rattle.std.proofs.Common.{rules}
use Rattle.ux_msg.proofs.sending.sent_cred.Goals as goal

pub returns-in_err-check_cred : goal.returns-in_err-check_cred
returns-in_err-check_cred g c = search rules
