use Rattle.std.proofs.Common.{◌≡◌, map, take}
use Rattle.ux_model.specs.Types.{Name}
use Rattle.ux_model.specs.Names as model
use Rattle.ux_names.specs.Targets.{target_of}
use Rattle.ux_names.proofs.paths.Paths.in_order.Given as goal

abbrev pub invariant-loop-entry : goal.invariant-loop-entry
invariant-loop-entry l = map {B = Name × model.PathTarget} (λ e. (e.0.now, target_of e.1)) l.paths.items ≡ map {B = Name × model.PathTarget}
    (λ e. (e.0.now, e.1.now)) (take l.entry-index l.entry-items)
