use Rattle.ux_laws.proofs.Sends.{writes_are_cut_off}
use Rattle.ux_laws.proofs.writes_are_cut_off.Goals as goal

pub returns : goal.returns
returns c = writes_are_cut_off
