use Rattle.ux_laws.proofs.Inputs.{peeks_take_nothing}
use Rattle.ux_laws.proofs.peeks_take_nothing.Goals as goal

pub returns : goal.returns
returns c = peeks_take_nothing
