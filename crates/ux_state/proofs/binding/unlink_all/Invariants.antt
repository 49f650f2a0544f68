use Rattle.std.proofs.Common.{◌≡◌, ◌++◌, map, take, drop}
use Rattle.ux_state.proofs.binding.unlink_all.Given as goal

-- those before the place are 0
abbrev pub invariant-loop-count : goal.invariant-loop-count
invariant-loop-count l = l.count-items ≡ map (λ _. 0) (take l.count-index l.initial.count-items) ++ drop l.count-index l.initial.count-items
