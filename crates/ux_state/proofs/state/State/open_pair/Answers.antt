use Rattle.std.proofs.Common.{◌-◌, ◌≡◌, ◌+◌, [], ◌∷◌, ◌++◌, length, Some, ap, sym, ◌∙◌, arith}
use Rattle.std.proofs.lemmas.Result.{err_from_is_err_and}
use Rattle.ux_model.specs.Places.{filled}
use Rattle.ux_model.specs.Socket.{pair_end}
use Rattle.ux_model.specs.Process.{Descriptor, descriptor, two_lowest_free}
use Rattle.ux_model.specs.State.{is_live}
use Rattle.ux_model.specs.References.{table_refs}
use Rattle.ux_model.specs.Pairing.{socket_description}
use Rattle.ux_slots.specs.Held.{count_at}
use Rattle.ux_state.specs.contracts.process.Process as process
use Rattle.ux_state.proofs.Lookups.{at_view}
use Rattle.ux_state.proofs.TableCounts.{table_kept}
use Rattle.ux_state.proofs.Opening.{pair_opened, pair_paired, end_holds, any_socket_counted, any_socket_inside, adds_from, entries_put}
use Rattle.ux_state.proofs.Opening.{table_is, new_two}
use Rattle.ux_state.proofs.Opening.{entry_is}
use Rattle.ux_state.proofs.state.State.open_pair.Goals as goal

pub invariant_of-self-in_err-two : goal.invariant_of-self-in_err-two
invariant_of-self-in_err-two g c =
    let live = ap (λ S. is_live S c.args.pid.0) c.self.view_is ∙ c.requires in
    let at = at_view c.self.inside.processes.items (c.args.pid.0 - 1) _ (process.the_view c.process.inside)
    c.process_mut-process.ensures.value c.process.view_is in
    table_kept _ _ _ _ _ _ _ c.self.invariant c.args.pid.0 (process.the_view c.process.inside) live at c.reserve.new.self _
    c.reserve.ensures.places (λ k.
    let same = ap (λ cs. count_at (record c.self.inside.descriptions { counts = cs }) k) c.reserve.ensures.counts in
    let table = ap (table_refs k) c.in_err-two.ensures.err in
    omega (arith, same, table))

pub invariant_of-self-2 : goal.invariant_of-self-2
invariant_of-self-2 g c =
    let live = ap (λ S. is_live S c.args.pid.0) c.self.view_is ∙ c.requires in
    let at = at_view c.self.inside.processes.items (c.args.pid.0 - 1) _ (process.the_view c.process.inside)
    c.process_mut-process.ensures.value c.process.view_is in
    let first : c.next_id-first.result ≡ length c.self.inside.descriptions.places = c.next_id-first.ensures
    ∙ ap length c.reserve.ensures.places in
    let second : c.new-second.result ≡ length c.self.inside.descriptions.places + 1 = c.new-second.ensures
    ∙ ap (λ n. n + 1) (c.number.ensures ∙ first) in
    pair_opened _ _ _ _ _ _ _ c.self.invariant c.args.pid.0 (process.the_view c.process.inside) live at _ _ c.insert_reserved-first.new.self
    c.insert_reserved-second.new.self _
    c.in_ok-two.two.0.0 c.in_ok-two.two.1.0 c.new_entry.result c.new_entry-2.result c.pair_end.result c.pair_end-2.result
    (ap (λ t. record (process.the_view c.process.inside) { table = t }) c.in_ok-two.ensures.opened) c.in_ok-two.ensures.lowest
    (ap (λ e. Descriptor.description e) c.new_entry.ensures ∙ first) (ap (λ e. Descriptor.description e) c.new_entry-2.ensures ∙ second)
    (adds_from _ c.reserve.new.self _ _ c.reserve.ensures.places c.reserve.ensures.counts c.insert_reserved-first.ensures.added)
    c.insert_reserved-second.ensures.added
    (pair_paired c.args.kind c.self.inside.descriptions.places c.args.flags c.args.cred c.pair_end.result c.pair_end-2.result
    (c.pair_end.ensures ∙ ap (λ n. socket_description c.args.flags (pair_end c.args.kind n c.args.cred)) second)
    (c.pair_end-2.ensures ∙ ap (λ n. socket_description c.args.flags (pair_end c.args.kind n c.args.cred)) first) c.self.invariant.paired)
    (end_holds _ _ _ _ c.pair_end.result c.pair_end.ensures) (end_holds _ _ _ _ c.pair_end-2.result c.pair_end-2.ensures)
    (any_socket_inside _ c.args.flags _ _ c.pair_end.ensures) (any_socket_inside _ c.args.flags _ _ c.pair_end-2.ensures)
    (any_socket_counted _ c.args.flags _ _ c.pair_end.ensures) (any_socket_counted _ c.args.flags _ _ c.pair_end-2.ensures)

pub returns-clause-lowest : goal.returns-clause-lowest
returns-clause-lowest g c =
    ap two_lowest_free (sym (table_is _ c.args.self.now c.args.pid.0 c.process_mut-process.result.now (process.the_view c.process.inside)
    c.requires c.self.view_is c.process_mut-process.ensures.value c.process.view_is))
    ∙ c.in_ok-two.ensures.lowest

pub returns-clause-opened : goal.returns-clause-opened
returns-clause-opened g c =
    let first : c.next_id-first.result ≡ length c.self.inside.descriptions.places = c.next_id-first.ensures
    ∙ ap length c.reserve.ensures.places in
    let second : c.new-second.result ≡ c.next_id-first.result + 1 = c.new-second.ensures ∙ ap (λ n. n + 1) c.number.ensures in
    let ahead = c.pair_end.ensures ∙ (λ j. socket_description c.args.flags
    (pair_end c.args.kind ((second ∙ ap (λ n. n + 1) first) j) c.args.cred)) in
    let back = c.pair_end-2.ensures ∙ (λ j. socket_description c.args.flags (pair_end c.args.kind (first j) c.args.cred)) in
    let added = c.insert_reserved-second.ensures.added.places
    ∙ (λ j. (c.insert_reserved-first.ensures.added.places ∙ (λ i. c.reserve.ensures.places i ++ Some (ahead i) ∷ [])) j ++ Some
    (back j) ∷ []) in
    let table = table_is _ c.args.self.now c.args.pid.0 c.process_mut-process.result.now (process.the_view c.process.inside) c.requires
    c.self.view_is c.process_mut-process.ensures.value c.process.view_is in
    let low = entry_is _ c.args.self.now c.args.flags c.next_id-first.result
    (λ n. n) c.new_entry.result c.self.view_is first c.new_entry.ensures in
    let high = entry_is _ c.args.self.now c.args.flags c.next_id-first.result
    (λ n. n + 1) c.new_entry-2.result c.self.view_is first (c.new_entry-2.ensures ∙ ap (descriptor c.args.flags) second) in
    entries_put _ c.args.self.now _ c.args.pid.0 c.process_mut-process.result.now (process.the_view c.process.inside) _ _ _ c.requires
    c.self.view_is c.process_mut-process.ensures.value c.process.view_is
    (new_two _ c.args.self.now c.args.kind c.args.flags c.args.cred _ c.self.view_is added)
    (c.in_ok-two.ensures.opened ∙ λ j. filled (filled (table j) c.in_ok-two.two.0.0 (low j)) c.in_ok-two.two.1.0 (high j))

pub returns-in_err-two-clause-full : goal.returns-in_err-two-clause-full
returns-in_err-two-clause-full g c =
    let table = table_is _ c.args.self.now c.args.pid.0 c.process_mut-process.result.now (process.the_view c.process.inside)
    c.requires c.self.view_is c.process_mut-process.ensures.value c.process.view_is in
    let p = err_from_is_err_and c.from_residual-in_err-two.result c.from_residual-in_err-two.ensures.1 in
    rw (p.1, p.2) (
      λ e. ap two_lowest_free (sym table) ∙ c.in_err-two.ensures.full.0 e,
      λ none. c.in_err-two.ensures.full.1 (ap two_lowest_free table ∙ none),
    )

pub returns-clause-full : goal.returns-clause-full
returns-clause-full g c =
    let lowest = ap two_lowest_free (sym (table_is _ c.args.self.now c.args.pid.0 c.process_mut-process.result.now
    (process.the_view c.process.inside) c.requires c.self.view_is c.process_mut-process.ensures.value c.process.view_is))
    ∙ c.in_ok-two.ensures.lowest in
    (λ e. absurd (cc e), λ none. absurd (cc (sym none ∙ lowest)))
