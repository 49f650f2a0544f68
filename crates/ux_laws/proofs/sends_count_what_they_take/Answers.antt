use Rattle.ux_laws.proofs.Sends.{sends_count}
use Rattle.ux_laws.proofs.sends_count_what_they_take.Goals as goal

pub returns : goal.returns
returns c = sends_count
