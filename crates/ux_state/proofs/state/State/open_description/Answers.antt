use Rattle.std.proofs.Common.{◌-◌, [], ◌∷◌, ◌++◌, length, Some, ap, sym, ◌∙◌, arith}
use Rattle.std.proofs.lemmas.Result.{err_from_is_err_and}
use Rattle.ux_model.specs.Places.{filled}
use Rattle.ux_model.specs.Process.{Descriptor, lowest_free}
use Rattle.ux_model.specs.State.{is_live}
use Rattle.ux_model.specs.References.{table_refs}
use Rattle.ux_slots.specs.Held.{count_at}
use Rattle.ux_state.specs.contracts.process.Process as process
use Rattle.ux_state.proofs.Lookups.{at_view}
use Rattle.ux_state.proofs.TableCounts.{table_kept}
use Rattle.ux_state.proofs.Opening.{fresh_inside, fresh_nothing, room_to_count, object_opened, adds_from, entries_put, table_is, new_one}
use Rattle.ux_state.proofs.Opening.{entry_is}
use Rattle.ux_state.proofs.state.State.open_description.Goals as goal

pub invariant_of-self-in_err-fd : goal.invariant_of-self-in_err-fd
invariant_of-self-in_err-fd g c =
    let live = ap (λ S. is_live S c.args.pid.0) c.self.view_is ∙ c.requires.live in
    let at = at_view c.self.inside.processes.items (c.args.pid.0 - 1) _ (process.the_view c.process.inside)
    c.process_mut-process.ensures.value c.process.view_is in
    table_kept _ _ _ _ _ _ _ c.self.invariant c.args.pid.0 (process.the_view c.process.inside) live at c.reserve.new.self _
    c.reserve.ensures.places (λ k.
    let same = ap (λ cs. count_at (record c.self.inside.descriptions { counts = cs }) k) c.reserve.ensures.counts in
    let table = ap (table_refs k) c.in_err-fd.ensures.err in
    omega (arith, same, table))

pub count_in-requires : goal.count_in-requires
count_in-requires g c =
    let room = c.in_ok-reserve.ensures.ok in
    room_to_count _ _ c.self.invariant.opened (omega (arith, room, c.reserve.ensures.numbers, ap length c.reserve.ensures.places))

pub invariant_of-self-2 : goal.invariant_of-self-2
invariant_of-self-2 g c =
    let live = ap (λ S. is_live S c.args.pid.0) c.self.view_is ∙ c.requires.live in
    let at = at_view c.self.inside.processes.items (c.args.pid.0 - 1) _ (process.the_view c.process.inside)
    c.process_mut-process.ensures.value c.process.view_is in
    object_opened _ _ _ _ _ _ _ c.self.invariant c.args.pid.0 (process.the_view c.process.inside) live at _ c.insert_reserved-id.new.self _
    c.in_ok-fd.fd.0 c.new_entry.result c.args.description
    (ap (λ t. record (process.the_view c.process.inside) { table = t }) c.in_ok-fd.ensures.opened) c.in_ok-fd.ensures.lowest
    (ap (λ e. Descriptor.description e) c.new_entry.ensures ∙ c.next_id-id.ensures ∙ ap length c.reserve.ensures.places)
    (adds_from _ c.reserve.new.self _ _ c.reserve.ensures.places c.reserve.ensures.counts c.insert_reserved-id.ensures.added)
    (fresh_nothing c.args.self.now _ c.requires.fresh)
    (fresh_inside _ c.args.self.now _ _ c.self.view_is c.requires.fresh c.self.invariant.one_each) c.count_in.ensures

pub returns-clause-lowest : goal.returns-clause-lowest
returns-clause-lowest g c =
    ap lowest_free (sym (table_is _ c.args.self.now c.args.pid.0 c.process_mut-process.result.now (process.the_view c.process.inside)
    c.requires.live c.self.view_is c.process_mut-process.ensures.value c.process.view_is))
    ∙ c.in_ok-fd.ensures.lowest

pub returns-clause-opened : goal.returns-clause-opened
returns-clause-opened g c =
    let added = c.insert_reserved-id.ensures.added.places ∙ (λ j. c.reserve.ensures.places j ++ Some c.args.description ∷ []) in
    let table = table_is _ c.args.self.now c.args.pid.0 c.process_mut-process.result.now (process.the_view c.process.inside) c.requires.live
    c.self.view_is c.process_mut-process.ensures.value c.process.view_is in
    let entry = entry_is _ c.args.self.now c.args.flags c.next_id-id.result
    (λ n. n) c.new_entry.result c.self.view_is (c.next_id-id.ensures ∙ ap length c.reserve.ensures.places) c.new_entry.ensures in
    entries_put _ c.args.self.now _ c.args.pid.0 c.process_mut-process.result.now (process.the_view c.process.inside) _ _ _ c.requires.live
    c.self.view_is c.process_mut-process.ensures.value c.process.view_is
    (new_one _ c.args.self.now _ _ c.self.view_is added)
    (c.in_ok-fd.ensures.opened ∙ λ j. filled (table j) c.in_ok-fd.fd.0 (entry j))

pub returns-clause-full : goal.returns-clause-full
returns-clause-full g c =
    let lowest = ap lowest_free (sym (table_is _ c.args.self.now c.args.pid.0 c.process_mut-process.result.now
    (process.the_view c.process.inside) c.requires.live c.self.view_is c.process_mut-process.ensures.value c.process.view_is))
    ∙ c.in_ok-fd.ensures.lowest in
    (λ e. absurd (cc e), λ none. absurd (cc (sym none ∙ lowest)))

pub returns-in_err-fd-clause-full : goal.returns-in_err-fd-clause-full
returns-in_err-fd-clause-full g c =
    let table = table_is _ c.args.self.now c.args.pid.0 c.process_mut-process.result.now (process.the_view c.process.inside) c.requires.live
    c.self.view_is c.process_mut-process.ensures.value c.process.view_is in
    let p = err_from_is_err_and c.from_residual-in_err-fd.result c.from_residual-in_err-fd.ensures.1 in
    rw (p.1, p.2)
    (λ e. ap lowest_free (sym table) ∙ c.in_err-fd.ensures.full.0 e, λ none. c.in_err-fd.ensures.full.1 (ap lowest_free table ∙ none))
