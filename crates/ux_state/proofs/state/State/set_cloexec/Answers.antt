use Rattle.std.proofs.Common.{◌-◌, ap, refl, option_map, ◌∙◌, arith}
use Rattle.std.specs.Prelude.{slice_set}
use Rattle.ux_model.specs.Places.{place}
use Rattle.ux_model.specs.Process.{with_cloexec}
use Rattle.ux_model.specs.State.{is_live}
use Rattle.ux_model.specs.References.{table_refs}
use Rattle.ux_state.specs.contracts.process.Process as process
use Rattle.ux_state.proofs.Lookups.{at_view}
use Rattle.ux_state.proofs.TableCounts.{table_kept, table_marked}
use Rattle.ux_state.proofs.Opening.{entries_put, table_is}
use Rattle.ux_state.proofs.state.State.set_cloexec.Goals as goal

pub invariant_of-self : goal.invariant_of-self
invariant_of-self g c =
    let live = ap (λ S. is_live S c.args.pid.0) c.self.view_is ∙ c.requires in
    let at = at_view c.self.inside.processes.items (c.args.pid.0 - 1) _ (process.the_view c.process.inside)
    c.process_mut-process.ensures.value c.process.view_is in
    table_kept _ _ _ _ _ _ _ c.self.invariant c.args.pid.0 (process.the_view c.process.inside) live at _ _ refl (λ k.
    let same = ap (table_refs k) c.set_cloexec.ensures in
    let marked = table_marked k c.args.cloexec c.process.inside.table c.args.fd.0 in
    omega (arith, same, marked))

pub returns : goal.returns
returns g c =
    entries_put _ c.args.self.now _ c.args.pid.0 c.process_mut-process.result.now (process.the_view c.process.inside) _ _ _ c.requires
    c.self.view_is c.process_mut-process.ensures.value c.process.view_is
    c.self.view_is
    (c.set_cloexec.ensures ∙ ap (λ t. slice_set t c.args.fd.0 (option_map (with_cloexec c.args.cloexec) (place t c.args.fd.0)))
    (table_is _ c.args.self.now c.args.pid.0 c.process_mut-process.result.now (process.the_view c.process.inside) c.requires c.self.view_is
    c.process_mut-process.ensures.value c.process.view_is))
