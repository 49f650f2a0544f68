use Rattle.std.proofs.Common.{◌∙◌}
use Rattle.ux_model.specs.Release.{none, another}
use Rattle.ux_model.proofs.Releasing.AnyOrder.{ends_alike}
use Rattle.ux_model.proofs.Releasing.OneGoes.{fewer_live_without}
use Rattle.ux_state.proofs.state.State.drop_unreferenced.Goals as goal

pub loop-d-init : goal.loop-d-init
loop-d-init g c = none

pub loop-d-smaller : goal.loop-d-smaller
loop-d-smaller g c = rw c.in-Some.ensures.1 (fewer_live_without c.loop-d.self c.in-Some.d c.in-Some.ensures.0)

pub loop-d-preserved : goal.loop-d-preserved
loop-d-preserved g c = rw c.in-Some.ensures.1 (another c.in-Some.d c.loop-d.invariant c.in-Some.ensures.0)

pub returns : goal.returns
returns g c = c.in_default.ensures.0 ∙ ends_alike c.args.self.now c.loop-d.self c.loop-d.invariant c.in_default.ensures.1
