use Rattle.std.proofs.Common.{ap, sym, ◌∙◌}
use Rattle.ux_model.specs.State.{process_at, with_process}
use Rattle.ux_model.specs.Users.{with_ids}
use Rattle.ux_kernel.proofs.Processes.{ids_taken}
use Rattle.ux_kernel.proofs.kernel.Kernel.set_ids.Goals as goal

pub returns : goal.returns
returns g c =
    ids_taken c.args.self.now _ c.args.pid.0 c.args.uid c.args.gid c.may_become.result c.requires
    (sym c.has_no_id.ensures ∙ c.if-has_no_id.false) c.may_become.ensures c.if-not-may_become.false
    (λ P h. c.set_ids.ensures P (ap (λ U. process_at U c.args.pid.0) c.self.view_is ∙ h)
    ∙ ap (λ U. with_process U c.args.pid.0 (with_ids c.args.uid c.args.gid P)) c.self.view_is)
