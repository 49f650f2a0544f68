use Rattle.std.proofs.Common.{◌≡◌, ℕ, map, take}
use Rattle.ux_model.specs.Types.{Name}
use Rattle.ux_names.proofs.abstract_names.AbstractNames.in_order.Given as goal

abbrev pub invariant-loop-entry : goal.invariant-loop-entry
invariant-loop-entry l = map {B = Name × ℕ} (λ e. (e.0.now, e.1)) l.names.items ≡ map {B = Name × ℕ}
    (λ e. (e.0.now, e.1.now)) (take l.entry-index l.entry-items)
