use Rattle.ux_model.proofs.Invariants.Closed.{boot_objects_closed_once}
use Rattle.ux_model.proofs.boot_objects_are_closed_once.Goals as goal

pub returns : goal.returns
returns c = boot_objects_closed_once
