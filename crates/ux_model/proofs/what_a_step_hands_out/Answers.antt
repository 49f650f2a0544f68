use Rattle.ux_model.proofs.Invariants.HandingOut.{handed_out}
use Rattle.ux_model.proofs.what_a_step_hands_out.Goals as goal

pub returns : goal.returns
returns c = handed_out
