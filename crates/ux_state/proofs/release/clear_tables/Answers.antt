use Rattle.std.proofs.Common.{set, ap, sym, ◌∙◌}
use Rattle.std.proofs.lemmas.List.Edits.{map_over_more}
use Rattle.ux_model.specs.Closing.{with_nothing_open}
use Rattle.ux_state.proofs.release.clear_tables.Goals as goal

pub loop-process-preserved : goal.loop-process-preserved
loop-process-preserved c =
    ap (set c.loop-process.process-items c.loop-process.process-index) (c.close_all.ensures ∙ sym (ap with_nothing_open c.process-item.is))
    ∙ map_over_more with_nothing_open c.deref_mut-process-items.result.now c.loop-process.process-items c.loop-process.process-index
    c.process-item.result c.loop-process-test.true c.loop-process.invariant c.process-item.is
