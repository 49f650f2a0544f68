use Rattle.ux_laws.proofs.Ended.{ends_are_for_ever}
use Rattle.ux_laws.proofs.ends_are_for_ever.Goals as goal

pub returns : goal.returns
returns c = ends_are_for_ever
