use Rattle.ux_laws.proofs.Offsets.{flags_are_set}
use Rattle.ux_laws.proofs.flags_are_set.Goals as goal

pub returns : goal.returns
returns c = flags_are_set
