use Rattle.std.proofs.Common.{rules}
use Rattle.ux_fdtable.proofs.descriptor.Descriptor.duplicate.Goals as goal

pub returns : goal.returns
returns c = search rules
