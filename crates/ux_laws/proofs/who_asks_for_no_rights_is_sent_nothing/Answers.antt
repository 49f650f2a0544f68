use Rattle.ux_laws.proofs.NoRights.{rights_are_asked}
use Rattle.ux_laws.proofs.who_asks_for_no_rights_is_sent_nothing.Goals as goal

pub returns : goal.returns
returns c = rights_are_asked
