use Rattle.std.proofs.Common.{◌≡◌}
use Rattle.delortxa.specs.Promising.{present}
use Rattle.delortxa.proofs.family.those_present.Given as goal

-- those among what was looked at
abbrev pub invariant-loop-option : goal.invariant-loop-option
invariant-loop-option g l =
    (goal.iterator-loop-option g).can_next l.option-iterator
    × (goal.iterator-loop-option g).is_finite l.option-iterator
    × (l.those.items ≡ present l.yielded)
