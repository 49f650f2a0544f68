use Rattle.std.proofs.lemmas.Result.{err_from_is_err_and}
use Rattle.std.proofs.Common.{◌-◌, ap, sym, ◌∙◌, arith, rules}
use Rattle.std.proofs.lemmas.Grind.{common_steps}
use Rattle.ux_model.specs.Places.{filled}
use Rattle.ux_model.specs.Process.{Descriptor, lowest_free_from}
use Rattle.ux_model.specs.State.{is_live}
use Rattle.ux_model.specs.References.{table_refs, refs}
use Rattle.ux_model.proofs.Counting.Moves.{one, table_filled}
use Rattle.ux_fdtable.proofs.TwoFree.{free_from_at}
use Rattle.ux_slots.specs.Held.{once}
use Rattle.ux_state.specs.contracts.process.Process as process
use Rattle.ux_state.proofs.Lookups.{at_view}
use Rattle.ux_state.proofs.TableCounts.{table_kept}
use Rattle.ux_state.proofs.Opening.{entries_put, same_places, table_is}
use Rattle.ux_state.proofs.state.State.put_lowest_from.Goals as goal

pub invariant_of-self-2 : goal.invariant_of-self-2
invariant_of-self-2 g c =
    let live = ap (λ S. is_live S c.args.pid.0) c.self.view_is ∙ c.requires.live in
    let at = at_view c.self.inside.processes.items (c.args.pid.0 - 1) _ (process.the_view c.process.inside)
    c.process_mut-process.ensures.value c.process.view_is in
    table_kept _ _ _ _ _ _ _ c.self.invariant c.args.pid.0 (process.the_view c.process.inside) live at c.retain.new.slots _
    c.retain.ensures.places (λ k.
    let free = free_from_at c.process.inside.table c.args.minimum.0 c.in_ok-fd.fd.0 c.in_ok-fd.ensures.lowest in
    let put = table_filled k c.process.inside.table c.in_ok-fd.fd.0 c.args.entry free.0 in
    let none = ap (one k) free.1 in
    let table = ap (table_refs k) c.in_ok-fd.ensures.opened in
    let more = c.retain.ensures.counts k in
    let entry = ap (λ e. once (Descriptor.description e) k) c.entry-2.view_is in
    omega (arith, put, none, table, more, entry))

pub returns-clause-lowest : goal.returns-clause-lowest
returns-clause-lowest g c =
    ap (lowest_free_from c.args.minimum.0) (sym
    (table_is _ c.args.self.now c.args.pid.0 c.process_mut-process.result.now (process.the_view c.process.inside) c.requires.live
    c.self.view_is c.process_mut-process.ensures.value c.process.view_is))
    ∙ c.in_ok-fd.ensures.lowest

pub returns-clause-opened : goal.returns-clause-opened
returns-clause-opened g c =
    entries_put _ c.args.self.now _ c.args.pid.0 c.process_mut-process.result.now (process.the_view c.process.inside) _ _ _ c.requires.live
    c.self.view_is c.process_mut-process.ensures.value c.process.view_is
    (same_places _ c.args.self.now _ c.self.view_is c.retain.ensures.places)
    (c.in_ok-fd.ensures.opened ∙ ap (λ t. filled t c.in_ok-fd.fd.0 c.args.entry)
    (table_is _ c.args.self.now c.args.pid.0 c.process_mut-process.result.now (process.the_view c.process.inside) c.requires.live
    c.self.view_is c.process_mut-process.ensures.value c.process.view_is))

pub invariant_of-self : goal.invariant_of-self
invariant_of-self g c = grind (arith, common_steps)

pub returns-in_err-fd-clause-err : goal.returns-in_err-fd-clause-err
returns-in_err-fd-clause-err g c = grind (arith, common_steps)

pub retain-requires-clause-held : goal.retain-requires-clause-held
retain-requires-clause-held g c =
    let d = c.entry-2.inside.description in
    let counted = c.self.invariant.counted d in
    let same = ap (λ S. refs S d) c.self.view_is in
    let entry = ap (λ (e : Descriptor). refs c.args.self.now e.description) c.entry-2.view_is in
    omega (arith, counted, same, entry, c.requires.held)

pub returns-in_err-fd-clause-full : goal.returns-in_err-fd-clause-full
returns-in_err-fd-clause-full g c =
    let table = table_is _ c.args.self.now c.args.pid.0 c.process_mut-process.result.now (process.the_view c.process.inside)
    c.requires.live c.self.view_is c.process_mut-process.ensures.value c.process.view_is in
    let p = err_from_is_err_and c.from_residual.result c.from_residual.ensures.1 in
    rw (p.1, p.2) (
      λ e. ap (lowest_free_from c.args.minimum.0) (sym table) ∙ c.in_err-fd.ensures.full.0 e,
      λ none. c.in_err-fd.ensures.full.1 (ap (lowest_free_from c.args.minimum.0) table ∙ none),
    )

pub returns-clause-full : goal.returns-clause-full
returns-clause-full g c = search rules depth 8 fits 5000
