use Rattle.std.proofs.Common.{map, ap, ◌∙◌}
use Rattle.std.proofs.lemmas.List.{take_all}
use Rattle.ux_model.specs.Types.{Name}
use Rattle.ux_model.specs.Names as model
use Rattle.ux_names.proofs.paths.Paths.in_order.Goals as goal

pub returns : goal.returns
returns c =
    let all = take_all c.loop-entry.entry-index c.deref-entry-items.result.now c.loop-entry-test.false
    ∙ c.deref-entry-items.ensures.value in
    rw (← c.self.view_is) (c.loop-entry.invariant ∙ ap (map {B = Name × model.PathTarget} (λ e. (e.0.now, e.1.now))) all ∙ c.in-Ok.ensures)
