use Rattle.ux_laws.proofs.Writes.{writes_put}
use Rattle.ux_laws.proofs.writes_put_their_bytes.Goals as goal

pub returns : goal.returns
returns c = writes_put
