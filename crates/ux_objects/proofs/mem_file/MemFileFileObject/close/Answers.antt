use Rattle.std.proofs.Common.{rules}
use Rattle.ux_objects.proofs.mem_file.MemFileFileObject.close.Goals as goal

pub returns : goal.returns
returns c = search rules
