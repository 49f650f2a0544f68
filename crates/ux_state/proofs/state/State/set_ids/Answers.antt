use Rattle.std.proofs.Common.{ap, refl, ◌∙◌, arith}
use Rattle.ux_model.specs.Process.{Process}
use Rattle.ux_model.specs.State.{is_live}
use Rattle.ux_model.specs.References.{table_refs}
use Rattle.ux_model.specs.Users.{with_ids}
use Rattle.ux_state.proofs.Lookups.{process_put}
use Rattle.ux_state.proofs.TableCounts.{table_kept}
use Rattle.ux_state.proofs.state.State.set_ids.Goals as goal

pub invariant_of-self : goal.invariant_of-self
invariant_of-self g c =
    let live = ap (λ S. is_live S c.args.pid.0) c.self.view_is ∙ c.requires in
    table_kept _ _ _ _ _ _ _ c.self.invariant c.args.pid.0 c.process_mut-process.result.now live c.process_mut-process.ensures.value _
    c.set_ids.new.self refl (λ k.
    let same = ap (λ P. table_refs k (Process.table P)) c.set_ids.ensures in
    omega (arith, same))

pub returns : goal.returns
returns g c = λ P h.
    process_put _ c.args.self.now c.args.pid.0 c.process_mut-process.result.now P c.set_ids.new.self (with_ids c.args.uid c.args.gid)
    c.requires c.self.view_is c.process_mut-process.ensures.value h c.set_ids.ensures
