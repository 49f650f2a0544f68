use Rattle.ux_laws.proofs.PollWakes.{polls_are_woken}
use Rattle.ux_laws.proofs.polls_are_woken.Goals as goal

pub returns : goal.returns
returns c = polls_are_woken
