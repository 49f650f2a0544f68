use Rattle.std.proofs.Common.{◌-◌, ◌<◌, length, ap, sym, ◌∙◌, arith}
use Rattle.ux_model.specs.Places.{filled}
use Rattle.ux_model.specs.Process.{Descriptor, copy_of}
use Rattle.ux_model.specs.State.{is_live}
use Rattle.ux_model.specs.References.{table_refs}
use Rattle.ux_model.proofs.Counting.Moves.{table_filled}
use Rattle.ux_slots.specs.Held.{once}
use Rattle.ux_state.specs.EntryCounts.{entry_refs}
use Rattle.ux_state.specs.contracts.process.Process as process
use Rattle.ux_state.proofs.Lookups.{at_view}
use Rattle.ux_state.proofs.TableCounts.{table_counted, table_kept, entry_in_table}
use Rattle.ux_state.proofs.Opening.{entries_put, same_places, table_is}
use Rattle.ux_state.proofs.state.State.put_copy_at.Goals as goal

pub release-requires : goal.release-requires
release-requires g c = λ k.
    let live = ap (λ S. is_live S c.args.pid.0) c.self.view_is ∙ c.requires.live in
    let at = at_view c.self.inside.processes.items (c.args.pid.0 - 1) _ (process.the_view c.process.inside)
    c.process_mut-process.ensures.value c.process.view_is in
    let all = table_counted _ _ _ _ _ _ _ c.self.invariant c.args.pid.0 (process.the_view c.process.inside) live at k in
    let one = entry_in_table k c.process.inside.table c.args.fd.0 in
    let same = ap (entry_refs k) c.in_ok-replaced.ensures.replaced in
    let more = c.retain.ensures.counts k in
    omega (arith, all, one, same, more)

pub invariant_of-self-2 : goal.invariant_of-self-2
invariant_of-self-2 g c =
    let live = ap (λ S. is_live S c.args.pid.0) c.self.view_is ∙ c.requires.live in
    let at = at_view c.self.inside.processes.items (c.args.pid.0 - 1) _ (process.the_view c.process.inside)
    c.process_mut-process.ensures.value c.process.view_is in
    let table = table_is _ c.args.self.now c.args.pid.0 c.process_mut-process.result.now (process.the_view c.process.inside) c.requires.live
    c.self.view_is c.process_mut-process.ensures.value c.process.view_is in
    let inside : c.args.fd.0 < length c.process.inside.table =
    omega (arith, ap length table, ap length c.table.ensures, c.limit.ensures, c.if-fd-limit.false) in
    table_kept _ _ _ _ _ _ _ c.self.invariant c.args.pid.0 (process.the_view c.process.inside) live at c.release.new.slots _
    (sym c.release.ensures.places ∙ c.retain.ensures.places) (λ k.
    let put = table_filled k c.process.inside.table c.args.fd.0 (copy_of c.args.entry) inside in
    let new = ap (table_refs k) c.in_ok-replaced.ensures.opened in
    let old = ap (entry_refs k) c.in_ok-replaced.ensures.replaced in
    let more = c.retain.ensures.counts k in
    let less = c.release.ensures.counts k in
    let entry = ap (λ e. once (Descriptor.description e) k) c.entry-2.view_is in
    omega (arith, put, new, old, more, less, entry))

pub returns-clause-opened : goal.returns-clause-opened
returns-clause-opened g c =
    entries_put _ c.args.self.now _ c.args.pid.0 c.process_mut-process.result.now (process.the_view c.process.inside) _ _ _ c.requires.live
    c.self.view_is c.process_mut-process.ensures.value c.process.view_is
    (same_places _ c.args.self.now _ c.self.view_is (sym c.release.ensures.places ∙ c.retain.ensures.places))
    (c.in_ok-replaced.ensures.opened ∙ ap (λ t. filled t c.args.fd.0 (copy_of c.args.entry))
    (table_is _ c.args.self.now c.args.pid.0 c.process_mut-process.result.now (process.the_view c.process.inside) c.requires.live
    c.self.view_is c.process_mut-process.ensures.value c.process.view_is))
