use Rattle.ux_laws.proofs.Resetting.{losses_reset}
use Rattle.ux_laws.proofs.losses_reset.Goals as goal

pub returns : goal.returns
returns c = losses_reset
