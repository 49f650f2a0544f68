use Rattle.ux_laws.proofs.Openings.{openings_are_as_asked}
use Rattle.ux_laws.proofs.openings_are_as_asked.Goals as goal

pub returns : goal.returns
returns c = openings_are_as_asked
