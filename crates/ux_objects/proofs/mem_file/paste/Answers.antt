use Rattle.std.proofs.Common.{arith}
use Rattle.std.proofs.lemmas.Grind.{common_steps}
use Rattle.ux_objects.proofs.mem_file.paste.Goals as goal

pub returns : goal.returns
returns c = grind (arith, common_steps)
