use Rattle.std.proofs.Common.{◌<◌, length, ap, ◌∙◌, arith}
use Rattle.ux_model.specs.Limits.{made_limit}
use Rattle.ux_model.specs.State.{State, process_at, next_process, with_child}
use Rattle.ux_model.specs.Forking.{child_of}
use Rattle.ux_kernel.proofs.Processes.{forked}
use Rattle.ux_kernel.proofs.kernel.Kernel.fork.Goals as goal

pub returns : goal.returns
returns g c =
    let long = ap (λ S. length (State.processes S)) c.self.view_is in
    let few : length c.args.self.now.processes < made_limit =
    omega (arith, c.if-process_count-ge-MADE_LIMIT.false, c.process_count.ensures.count, long) in
    forked c.args.self.now c.fork_process.new.self c.args.pid.0 _ c.requires few
    (c.in_ok-child.ensures.number ∙ ap next_process c.self.view_is)
    (λ P h. c.in_ok-child.ensures.made P (ap (λ S. process_at S c.args.pid.0) c.self.view_is ∙ h)
    ∙ ap (λ S. with_child S (child_of P)) c.self.view_is)
