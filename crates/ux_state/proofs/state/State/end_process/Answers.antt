use Rattle.std.proofs.Common.{◌-◌, ap, refl, sym, ◌∙◌, arith}
use Rattle.ux_model.specs.Process.{Process}
use Rattle.ux_model.specs.State.{is_live}
use Rattle.ux_model.specs.References.{table_refs}
use Rattle.ux_state.specs.contracts.process.Process as process
use Rattle.ux_state.proofs.Lookups.{at_view}
use Rattle.ux_state.proofs.TableCounts.{held_same, process_kept, table_counted, none_open}
use Rattle.ux_state.proofs.state.State.end_process.Goals as goal

pub release_table-requires : goal.release_table-requires
release_table-requires g c =
    let live = ap (λ S. is_live S c.args.pid.0) c.self.view_is ∙ c.requires in
    let at = at_view c.self.inside.processes.items (c.args.pid.0 - 1) _ (process.the_view c.process.inside)
    c.process_mut-process.ensures.value c.process.view_is in
    table_counted _ _ _ _ _ _ _ c.self.invariant c.args.pid.0 (process.the_view c.process.inside) live at

pub invariant_of-self : goal.invariant_of-self
invariant_of-self g c =
    let live = ap (λ S. is_live S c.args.pid.0) c.self.view_is ∙ c.requires in
    process_kept _ _ _ _ _ _ _ c.self.invariant c.args.pid.0 c.process_mut-process.result.now live c.process_mut-process.ensures.value _
    c.release_table.new.slots c.exit.new.self refl (held_same _ _ (sym c.release_table.ensures.places))
    (rw (sym c.release_table.ensures.places) c.self.invariant.opened) c.self.invariant.settled
    (rw (sym c.release_table.ensures.places) c.self.invariant.paired) (rw (sym c.release_table.ensures.places) c.self.invariant.owned)
    (λ k.
    let none = none_open k c.process_mut-process.result.now.table in
    let table = ap (λ P. table_refs k (Process.table P)) c.exit.ensures in
    let whole = ap (λ P. table_refs k (Process.table P)) c.process.view_is in
    let less = c.release_table.ensures.counts k in
    omega (arith, none, table, whole, less))
