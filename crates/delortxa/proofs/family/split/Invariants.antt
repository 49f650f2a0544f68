use Rattle.std.proofs.Common.{◌≡◌, map}
use Rattle.delortxa.proofs.family.split.Given as goal

-- what was taken apart so far
abbrev pub invariant-loop-output : goal.invariant-loop-output
invariant-loop-output g l =
    (goal.iterator-loop-output g).can_next l.output-iterator
    × (goal.iterator-loop-output g).is_finite l.output-iterator
    × (l.outputs.items ≡ map (λ gone. gone.0) l.yielded)
    × (l.spents.items ≡ map (λ gone. gone.1) l.yielded)
