use Rattle.std.proofs.Common.{◌≡◌, map, length}
use Rattle.ux_model.specs.Boot.{are_distinct}
use Rattle.ux_kernel.proofs.boot.are_distinct.Given as goal

abbrev pub invariant-loop-first : goal.invariant-loop-first
invariant-loop-first g l = are_distinct (map (λ o. o.0) l.left) ≡ are_distinct (map (λ o. o.0) l.objects)

abbrev pub decreases-loop-first : goal.decreases-loop-first
decreases-loop-first g l = length l.left
