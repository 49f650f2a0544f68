use Rattle.ux_laws.proofs.Writes.{bytes_have_a_way}
use Rattle.ux_laws.proofs.bytes_have_a_way.Goals as goal

pub returns : goal.returns
returns c = bytes_have_a_way
