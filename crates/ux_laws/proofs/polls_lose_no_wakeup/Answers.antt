use Rattle.ux_laws.proofs.Polls.{no_lost_wakeup}
use Rattle.ux_laws.proofs.polls_lose_no_wakeup.Goals as goal

pub returns : goal.returns
returns c = no_lost_wakeup
