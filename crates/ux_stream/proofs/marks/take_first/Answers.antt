use Rattle.std.proofs.Common.{arith}
use Rattle.std.proofs.lemmas.Grind.{common_steps}
use Rattle.ux_stream.proofs.marks.take_first.Goals as goal

pub returns-then-count-n-clause-rights : goal.returns-then-count-n-clause-rights
returns-then-count-n-clause-rights g c = grind (arith, common_steps)

pub returns-then-count-n-clause-origin : goal.returns-then-count-n-clause-origin
returns-then-count-n-clause-origin g c = grind (arith, common_steps)

pub returns-then-count-n-clause-later_origin : goal.returns-then-count-n-clause-later_origin
returns-then-count-n-clause-later_origin g c = grind (arith, common_steps)

pub returns-then-count-n-clause-left : goal.returns-then-count-n-clause-left
returns-then-count-n-clause-left g c = grind (arith, common_steps)

pub returns-clause-rights : goal.returns-clause-rights
returns-clause-rights g c = grind (arith, common_steps)

pub returns-clause-later_origin : goal.returns-clause-later_origin
returns-clause-later_origin g c = grind (arith, common_steps)

pub returns-clause-left : goal.returns-clause-left
returns-clause-left g c = grind (arith, common_steps)
