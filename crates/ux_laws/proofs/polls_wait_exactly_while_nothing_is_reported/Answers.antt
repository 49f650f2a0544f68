use Rattle.ux_laws.proofs.Polls.{polls_wait_while}
use Rattle.ux_laws.proofs.polls_wait_exactly_while_nothing_is_reported.Goals as goal

pub returns : goal.returns
returns c = polls_wait_while
