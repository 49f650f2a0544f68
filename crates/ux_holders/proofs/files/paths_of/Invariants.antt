use Rattle.std.proofs.Common.{◌≡◌, map, take}
use Rattle.ux_model.specs.Types.{Name}
use Rattle.ux_model.specs.Names as model
use Rattle.ux_names.specs.Targets.{target_of}
use Rattle.ux_holders.proofs.files.paths_of.Given as goal

abbrev pub invariant-loop-entry : goal.invariant-loop-entry
invariant-loop-entry g l = map {B = Name × model.PathTarget}
    (λ row. (row.name, target_of row.target)) l.rows.items ≡ map {B = Name × model.PathTarget}
    (λ e. (e.0.now, target_of e.1)) (take l.entry-index l.entry-items)
