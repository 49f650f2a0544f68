use Rattle.ux_laws.proofs.NoWay.{strangers_have_no_way}
use Rattle.ux_laws.proofs.strangers_have_no_way.Goals as goal

pub returns : goal.returns
returns c = strangers_have_no_way
