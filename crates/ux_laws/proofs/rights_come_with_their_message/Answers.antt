use Rattle.ux_laws.proofs.Spent.{rights_come_with_their_message}
use Rattle.ux_laws.proofs.rights_come_with_their_message.Goals as goal

pub returns : goal.returns
returns c = rights_come_with_their_message
