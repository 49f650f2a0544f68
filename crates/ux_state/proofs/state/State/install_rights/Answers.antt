use Rattle.std.proofs.Common.{◌-◌, ap, sym, ◌∙◌, arith, length, map, take}
use Rattle.std.proofs.lemmas.List.{length-map}
use Rattle.ux_model.specs.Process.{free_numbers}
use Rattle.ux_model.specs.Delivery.{installed}
use Rattle.ux_model.specs.State.{is_live}
use Rattle.ux_model.specs.References.{table_refs, times}
use Rattle.ux_state.specs.contracts.process.Process as process
use Rattle.ux_state.proofs.Lookups.{at_view}
use Rattle.ux_state.proofs.TableCounts.{table_kept}
use Rattle.ux_state.proofs.Opening.{entries_put, same_places, table_is}
use Rattle.ux_fdtable.proofs.Installing.{free_below}
use Rattle.ux_state.proofs.Installed.{installed_counted, as_front}
use Rattle.ux_state.proofs.state.State.install_rights.Goals as goal

pub install_all-requires : goal.install_all-requires
install_all-requires g c =
    let table = table_is _ c.args.self.now c.args.pid.0 c.process_mut-process.result.now (process.the_view c.process.inside) c.requires.live
    c.self.view_is c.process_mut-process.ensures.value c.process.view_is in
    let numbers = map (λ fd. fd.0) c.args.numbers.now in
    free_below numbers (length c.args.numbers.now) c.process.inside.table
    (c.requires.free ∙ ap (λ t. take (length c.args.numbers.now) (free_numbers t)) (sym table))

pub invariant_of-self-2 : goal.invariant_of-self-2
invariant_of-self-2 g c =
    let live = ap (λ S. is_live S c.args.pid.0) c.self.view_is ∙ c.requires.live in
    let at = at_view c.self.inside.processes.items (c.args.pid.0 - 1) _ (process.the_view c.process.inside)
    c.process_mut-process.ensures.value c.process.view_is in
    let is = table_is _ c.args.self.now c.args.pid.0 c.process_mut-process.result.now (process.the_view c.process.inside) c.requires.live
    c.self.view_is c.process_mut-process.ensures.value c.process.view_is in
    let numbers = map (λ fd. fd.0) c.args.numbers.now in
    let long = length-map c.args.numbers.now (λ fd. fd.0) in
    table_kept _ _ _ _ _ _ _ c.self.invariant c.args.pid.0 (process.the_view c.process.inside) live at c.retain_all.new.slots _
    c.retain_all.ensures.places (λ k.
    let front = as_front c.args.numbers.now (free_numbers c.process.inside.table)
    (c.requires.free ∙ ap (λ t. take (length c.args.numbers.now) (free_numbers t)) (sym is)) in
    let put = installed_counted k c.args.cloexec numbers c.args.rights.now c.process.inside.table front
    (let enough = c.requires.enough in omega (arith, long, enough)) in
    let table = ap (table_refs k) c.in_ok-install_all.ensures.ok in
    let more = c.retain_all.ensures.counts k in
    let same = ap (λ n. times k (take n c.args.rights.now)) long in
    omega (arith, put, table, more, same))

pub returns-clause-ok : goal.returns-clause-ok
returns-clause-ok g c =
    let numbers = map (λ fd. fd.0) c.args.numbers.now in
    entries_put _ c.args.self.now _ c.args.pid.0 c.process_mut-process.result.now (process.the_view c.process.inside) _ _ _ c.requires.live
    c.self.view_is c.process_mut-process.ensures.value c.process.view_is
    (same_places _ c.args.self.now _ c.self.view_is c.retain_all.ensures.places)
    (c.in_ok-install_all.ensures.ok ∙ ap (installed c.args.cloexec numbers c.args.rights.now)
    (table_is _ c.args.self.now c.args.pid.0 c.process_mut-process.result.now (process.the_view c.process.inside) c.requires.live
    c.self.view_is c.process_mut-process.ensures.value c.process.view_is))
