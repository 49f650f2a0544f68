use Rattle.std.proofs.Common.{rules}
use Rattle.ux_msg.proofs.flight.is_over_limit.Goals as goal

pub returns-then-count-gt0 : goal.returns-then-count-gt0
returns-then-count-gt0 g c = search rules
