use Rattle.std.proofs.Common.{rules}
use Rattle.ux_types.proofs.flag_sets.OpenFlagsFlags.flags.Goals as goal

pub returns : goal.returns
returns c = search rules
