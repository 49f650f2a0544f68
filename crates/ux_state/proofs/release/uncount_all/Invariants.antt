use Rattle.std.proofs.Common.{◌≡◌, ◌++◌, map, take, drop}
use Rattle.ux_state.specs.Counting.{none_open}
use Rattle.ux_state.proofs.release.uncount_all.Given as goal

-- those before the place are none
abbrev pub invariant-loop-counts : goal.invariant-loop-counts
invariant-loop-counts l = l.counts-items ≡ map
    (λ _. none_open) (take l.counts-index l.initial.counts-items) ++ drop l.counts-index l.initial.counts-items
