use Rattle.ux_laws.proofs.Unwritten.{hold_only_what_they_made}
use Rattle.ux_laws.proofs.who_was_sent_nothing_holds_what_it_made.Goals as goal

pub returns : goal.returns
returns c = hold_only_what_they_made
