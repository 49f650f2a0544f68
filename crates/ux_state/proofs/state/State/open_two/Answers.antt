use Rattle.std.proofs.Common.{◌-◌, ◌≡◌, ◌+◌, [], ◌∷◌, ◌++◌, length, Some, ap, sym, ◌∙◌, arith}
use Rattle.std.proofs.lemmas.List.{length_push}
use Rattle.std.proofs.lemmas.Result.{err_from_is_err_and}
use Rattle.ux_model.specs.Places.{filled}
use Rattle.ux_model.specs.Process.{Descriptor, descriptor, two_lowest_free}
use Rattle.ux_model.specs.State.{is_live}
use Rattle.ux_model.specs.References.{table_refs}
use Rattle.ux_model.proofs.Counting.Making.{paired-push}
use Rattle.ux_slots.specs.Held.{count_at}
use Rattle.ux_state.specs.contracts.process.Process as process
use Rattle.ux_state.proofs.Lookups.{at_view}
use Rattle.ux_state.proofs.TableCounts.{table_kept}
use Rattle.ux_state.proofs.Opening.{fresh_inside, fresh_nothing, room_to_count, counted_push, pair_opened, adds_from, entries_put}
use Rattle.ux_state.proofs.Opening.{untouched, table_is, new_both, entry_is}
use Rattle.ux_state.proofs.state.State.open_two.Goals as goal

pub invariant_of-self-in_err-two : goal.invariant_of-self-in_err-two
invariant_of-self-in_err-two g c =
    let live = ap (λ S. is_live S c.args.pid.0) c.self.view_is ∙ c.requires.live in
    let at = at_view c.self.inside.processes.items (c.args.pid.0 - 1) _ (process.the_view c.process.inside)
    c.process_mut-process.ensures.value c.process.view_is in
    table_kept _ _ _ _ _ _ _ c.self.invariant c.args.pid.0 (process.the_view c.process.inside) live at c.reserve.new.self _
    c.reserve.ensures.places (λ k.
    let same = ap (λ cs. count_at (record c.self.inside.descriptions { counts = cs }) k) c.reserve.ensures.counts in
    let table = ap (table_refs k) c.in_err-two.ensures.err in
    omega (arith, same, table))

pub count_in-requires : goal.count_in-requires
count_in-requires g c =
    let room = c.in_ok-reserve.ensures.ok in
    room_to_count _ _ c.self.invariant.opened (omega (arith, room, c.reserve.ensures.numbers, ap length c.reserve.ensures.places))

pub count_in-requires-2 : goal.count_in-requires-2
count_in-requires-2 g c =
    let room = c.in_ok-reserve.ensures.ok in
    let long = length_push c.self.inside.descriptions.places (Some c.args.first) in
    room_to_count _ _
    (counted_push c.self.inside.descriptions.places _ _ c.args.first c.self.invariant.opened
    (fresh_inside _ c.args.self.now _ _ c.self.view_is c.requires.first c.self.invariant.one_each) c.count_in.ensures)
    (omega (arith, room, c.reserve.ensures.numbers, ap length c.reserve.ensures.places, long))

pub invariant_of-self-2 : goal.invariant_of-self-2
invariant_of-self-2 g c =
    let live = ap (λ S. is_live S c.args.pid.0) c.self.view_is ∙ c.requires.live in
    let at = at_view c.self.inside.processes.items (c.args.pid.0 - 1) _ (process.the_view c.process.inside)
    c.process_mut-process.ensures.value c.process.view_is in
    let low : c.next_id-low.result ≡ length c.self.inside.descriptions.places = c.next_id-low.ensures
    ∙ ap length c.reserve.ensures.places in
    let high : c.new-high.result ≡ length c.self.inside.descriptions.places + 1 = c.new-high.ensures
    ∙ ap (λ n. n + 1) (c.number.ensures ∙ low) in
    let first = fresh_nothing c.args.self.now c.args.first c.requires.first in
    let second = fresh_nothing c.args.self.now c.args.second c.requires.second in
    pair_opened _ _ _ _ _ _ _ c.self.invariant c.args.pid.0 (process.the_view c.process.inside) live at _ _
    c.insert_reserved-first.new.self c.insert_reserved-second.new.self _
    c.in_ok-two.two.0.0 c.in_ok-two.two.1.0 c.new_entry.result c.new_entry-2.result c.args.first c.args.second
    (ap (λ t. record (process.the_view c.process.inside) { table = t }) c.in_ok-two.ensures.opened) c.in_ok-two.ensures.lowest
    (ap (λ e. Descriptor.description e) c.new_entry.ensures ∙ low) (ap (λ e. Descriptor.description e) c.new_entry-2.ensures ∙ high)
    (adds_from _ c.reserve.new.self _ _ c.reserve.ensures.places c.reserve.ensures.counts c.insert_reserved-first.ensures.added)
    c.insert_reserved-second.ensures.added
    (paired-push _ c.args.second second.peer
    (paired-push c.self.inside.descriptions.places c.args.first first.peer c.self.invariant.paired)) first.refs second.refs
    (fresh_inside _ c.args.self.now _ _ c.self.view_is c.requires.first c.self.invariant.one_each)
    (fresh_inside _ c.args.self.now _ _ c.self.view_is c.requires.second c.self.invariant.one_each)
    c.count_in.ensures c.count_in-2.ensures

pub returns-clause-lowest : goal.returns-clause-lowest
returns-clause-lowest g c =
    ap two_lowest_free (sym (table_is _ c.args.self.now c.args.pid.0 c.process_mut-process.result.now (process.the_view c.process.inside)
    c.requires.live c.self.view_is c.process_mut-process.ensures.value c.process.view_is))
    ∙ c.in_ok-two.ensures.lowest

pub returns-clause-opened : goal.returns-clause-opened
returns-clause-opened g c =
    let first : c.next_id-low.result ≡ length c.self.inside.descriptions.places = c.next_id-low.ensures
    ∙ ap length c.reserve.ensures.places in
    let second : c.new-high.result ≡ c.next_id-low.result + 1 = c.new-high.ensures ∙ ap (λ n. n + 1) c.number.ensures in
    let added = c.insert_reserved-second.ensures.added.places
    ∙ (λ j. (c.insert_reserved-first.ensures.added.places ∙ (λ i. c.reserve.ensures.places i ++ Some c.args.first ∷ [])) j ++ Some
    c.args.second ∷ []) in
    let table = table_is _ c.args.self.now c.args.pid.0 c.process_mut-process.result.now (process.the_view c.process.inside)
    c.requires.live c.self.view_is c.process_mut-process.ensures.value c.process.view_is in
    let low = entry_is _ c.args.self.now c.args.flags c.next_id-low.result
    (λ n. n) c.new_entry.result c.self.view_is first c.new_entry.ensures in
    let high = entry_is _ c.args.self.now c.args.flags c.next_id-low.result
    (λ n. n + 1) c.new_entry-2.result c.self.view_is first (c.new_entry-2.ensures ∙ ap (descriptor c.args.flags) second) in
    entries_put _ c.args.self.now _ c.args.pid.0 c.process_mut-process.result.now (process.the_view c.process.inside) _ _ _
    c.requires.live c.self.view_is c.process_mut-process.ensures.value c.process.view_is
    (new_both _ c.args.self.now _ _ _ c.self.view_is added)
    (c.in_ok-two.ensures.opened ∙ λ j. filled (filled (table j) c.in_ok-two.two.0.0 (low j)) c.in_ok-two.two.1.0 (high j))

pub returns-clause-full : goal.returns-clause-full
returns-clause-full g c =
    let lowest = ap two_lowest_free (sym (table_is _ c.args.self.now c.args.pid.0 c.process_mut-process.result.now
    (process.the_view c.process.inside) c.requires.live c.self.view_is c.process_mut-process.ensures.value c.process.view_is))
    ∙ c.in_ok-two.ensures.lowest in
    (λ e. absurd (cc e), λ none. absurd (cc (sym none ∙ lowest)))

pub returns-in_err-two-clause-full : goal.returns-in_err-two-clause-full
returns-in_err-two-clause-full g c =
    let table = table_is _ c.args.self.now c.args.pid.0 c.process_mut-process.result.now (process.the_view c.process.inside)
    c.requires.live c.self.view_is c.process_mut-process.ensures.value c.process.view_is in
    let p = err_from_is_err_and c.from_residual-in_err-two.result c.from_residual-in_err-two.ensures.1 in
    rw (p.1, p.2) (
      λ e. ap two_lowest_free (sym table) ∙ c.in_err-two.ensures.full.0 e,
      λ none. c.in_err-two.ensures.full.1 (ap two_lowest_free table ∙ none),
    )

pub returns-in_err-two-clause-err : goal.returns-in_err-two-clause-err
returns-in_err-two-clause-err g c =
    let p = err_from_is_err_and c.from_residual-in_err-two.result c.from_residual-in_err-two.ensures.1 in
    rw p.1
    (untouched _ c.args.self.now c.args.pid.0 c.process_mut-process.result.now (process.the_view c.process.inside) _ _ c.self.view_is
    c.process_mut-process.ensures.value c.process.view_is c.reserve.ensures.places c.in_err-two.ensures.err)
