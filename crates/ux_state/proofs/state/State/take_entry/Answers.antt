use Rattle.std.proofs.Common.{◌-◌, ap, sym, ◌∙◌, arith}
use Rattle.ux_model.specs.Places.{emptied}
use Rattle.ux_model.specs.State.{is_live}
use Rattle.ux_model.specs.References.{table_refs}
use Rattle.ux_model.proofs.Counting.Moves.{table_emptied}
use Rattle.ux_state.specs.EntryCounts.{entry_refs}
use Rattle.ux_state.specs.contracts.process.Process as process
use Rattle.ux_state.proofs.Lookups.{at_view}
use Rattle.ux_state.proofs.TableCounts.{table_counted, table_kept, entry_in_table}
use Rattle.ux_state.proofs.Opening.{entries_put, same_places, table_is}
use Rattle.ux_state.proofs.state.State.take_entry.Goals as goal

pub release-requires : goal.release-requires
release-requires g c = λ k.
    let live = ap (λ S. is_live S c.args.pid.0) c.self.view_is ∙ c.requires in
    let at = at_view c.self.inside.processes.items (c.args.pid.0 - 1) _ (process.the_view c.process.inside)
    c.process_mut-process.ensures.value c.process.view_is in
    let all = table_counted _ _ _ _ _ _ _ c.self.invariant c.args.pid.0 (process.the_view c.process.inside) live at k in
    let one = entry_in_table k c.process.inside.table c.args.fd.0 in
    let same = ap (entry_refs k) c.remove-removed.ensures.removed in
    omega (arith, all, one, same)

pub invariant_of-self : goal.invariant_of-self
invariant_of-self g c =
    let live = ap (λ S. is_live S c.args.pid.0) c.self.view_is ∙ c.requires in
    let at = at_view c.self.inside.processes.items (c.args.pid.0 - 1) _ (process.the_view c.process.inside)
    c.process_mut-process.ensures.value c.process.view_is in
    table_kept _ _ _ _ _ _ _ c.self.invariant c.args.pid.0 (process.the_view c.process.inside) live at c.release.new.slots _
    (sym c.release.ensures.places) (λ k.
    let taken = table_emptied k c.process.inside.table c.args.fd.0 in
    let table = ap (table_refs k) c.remove-removed.ensures.closed in
    let same = ap (entry_refs k) c.remove-removed.ensures.removed in
    let less = c.release.ensures.counts k in
    omega (arith, taken, table, same, less))

pub returns : goal.returns
returns g c =
    entries_put _ c.args.self.now _ c.args.pid.0 c.process_mut-process.result.now (process.the_view c.process.inside) _ _ _ c.requires
    c.self.view_is c.process_mut-process.ensures.value c.process.view_is
    (same_places _ c.args.self.now _ c.self.view_is (sym c.release.ensures.places))
    (c.remove-removed.ensures.closed ∙ ap (λ t. emptied t c.args.fd.0)
    (table_is _ c.args.self.now c.args.pid.0 c.process_mut-process.result.now (process.the_view c.process.inside) c.requires c.self.view_is
    c.process_mut-process.ensures.value c.process.view_is))
