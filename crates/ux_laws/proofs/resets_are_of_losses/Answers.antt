use Rattle.ux_laws.proofs.Ended.{resets_are_of_losses}
use Rattle.ux_laws.proofs.resets_are_of_losses.Goals as goal

pub returns : goal.returns
returns c = resets_are_of_losses
