use Rattle.ux_laws.proofs.Sends.{sends_are_refused}
use Rattle.ux_laws.proofs.sends_are_cut_off.Goals as goal

pub returns : goal.returns
returns c = sends_are_refused
