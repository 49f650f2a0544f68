use Rattle.ux_model.proofs.Invariants.Closed.{closed_once}
use Rattle.ux_model.proofs.objects_are_closed_once.Goals as goal

pub returns : goal.returns
returns c = closed_once
