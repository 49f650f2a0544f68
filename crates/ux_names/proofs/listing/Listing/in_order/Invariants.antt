use Rattle.std.proofs.Common.{◌≡◌, map, take}
use Rattle.ux_model.specs.Types.{Name}
use Rattle.ux_names.proofs.listing.Listing.in_order.Given as goal

abbrev pub invariant-loop-entry : goal.invariant-loop-entry
invariant-loop-entry g l = map {B = Name × g.row.X.Denot} (λ e. (e.0.now, e.1.now)) l.names.items ≡ map {B = Name × g.row.X.Denot}
    (λ e. (e.0.now, e.1.now.value)) (take l.entry-index l.entry-items)
