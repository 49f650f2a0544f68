use Rattle.std.proofs.Common.{rules}
use Rattle.ux_description.proofs.description.Description.lost_peer.Goals as goal

pub returns-in-Socket : goal.returns-in-Socket
returns-in-Socket c = search rules
