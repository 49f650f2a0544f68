use Rattle.std.proofs.Common.{sym, ap, ◌∙◌, subst}
use Rattle.std.specs.List.{AllByRecursion}
use Rattle.ux_model.specs.Release.{released_objects}
use Rattle.ux_model.specs.HandingOut.{IsHandedOut}
use Rattle.ux_model.proofs.Invariants.HandingOut.{handed_out}
use Rattle.ux_kernel.proofs.kernel.Kernel.step.Goals as goal

pub returns-clause-handed_out : goal.returns-clause-handed_out
returns-clause-handed_out g c =
    subst (AllByRecursion (IsHandedOut c.args.self.now))
    (sym (c.settle-numbers.ensures.released ∙ ap released_objects c.self.view_is))
    (handed_out c.args.self.now c.call-done.new.self c.args.pid.0 c.args.tag c.args.request.now c.call-done.result.reply
    c.call-done.ensures.chosen)
