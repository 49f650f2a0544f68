use Rattle.std.proofs.Common.{rules}
use Rattle.ux_cmsg.proofs.credentials.check_cred.Goals as goal

pub returns-else-lives-clause-refusal : goal.returns-else-lives-clause-refusal
returns-else-lives-clause-refusal c = search rules
