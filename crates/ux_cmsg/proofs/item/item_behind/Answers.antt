use Rattle.std.proofs.Common.{rules}
use Rattle.ux_model.specs.ControlReading.{item_behind}
use Rattle.ux_cmsg.proofs.item.item_behind.Goals as goal

pub returns : goal.returns
unfolding item_behind
returns c = search rules
