use Rattle.std.proofs.Common.{◌-◌, map, ap, sym, ◌∙◌, arith}
use Rattle.ux_model.specs.Process.{kept_on_exec}
use Rattle.ux_model.specs.State.{is_live}
use Rattle.ux_model.specs.References.{table_refs}
use Rattle.ux_state.specs.contracts.process.Process as process
use Rattle.ux_state.proofs.Lookups.{at_view}
use Rattle.ux_state.proofs.TableCounts.{table_counted, table_kept, table_parted}
use Rattle.ux_state.proofs.Opening.{entries_put, same_places, table_is}
use Rattle.ux_state.proofs.state.State.exec_process.Goals as goal

pub release_marked-requires : goal.release_marked-requires
release_marked-requires g c = λ k.
    let live = ap (λ S. is_live S c.args.pid.0) c.self.view_is ∙ c.requires in
    let at = at_view c.self.inside.processes.items (c.args.pid.0 - 1) _ (process.the_view c.process.inside)
    c.process_mut-process.ensures.value c.process.view_is in
    let all = table_counted _ _ _ _ _ _ _ c.self.invariant c.args.pid.0 (process.the_view c.process.inside) live at k in
    let parts = table_parted k c.process.inside.table in
    omega (arith, all, parts)

pub invariant_of-self : goal.invariant_of-self
invariant_of-self g c =
    let live = ap (λ S. is_live S c.args.pid.0) c.self.view_is ∙ c.requires in
    let at = at_view c.self.inside.processes.items (c.args.pid.0 - 1) _ (process.the_view c.process.inside)
    c.process_mut-process.ensures.value c.process.view_is in
    table_kept _ _ _ _ _ _ _ c.self.invariant c.args.pid.0 (process.the_view c.process.inside) live at c.release_marked.new.slots _
    (sym c.release_marked.ensures.places) (λ k.
    let parts = table_parted k c.process.inside.table in
    let table = ap (table_refs k) c.close_on_exec.ensures in
    let less = c.release_marked.ensures.counts k in
    omega (arith, parts, table, less))

pub returns : goal.returns
returns g c =
    entries_put _ c.args.self.now _ c.args.pid.0 c.process_mut-process.result.now (process.the_view c.process.inside) _ _ _ c.requires
    c.self.view_is c.process_mut-process.ensures.value c.process.view_is
    (same_places _ c.args.self.now _ c.self.view_is (sym c.release_marked.ensures.places))
    (c.close_on_exec.ensures ∙ ap (map kept_on_exec)
    (table_is _ c.args.self.now c.args.pid.0 c.process_mut-process.result.now (process.the_view c.process.inside) c.requires c.self.view_is
    c.process_mut-process.ensures.value c.process.view_is))
