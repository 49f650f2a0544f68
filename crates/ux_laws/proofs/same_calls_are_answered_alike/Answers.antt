use Rattle.ux_laws.proofs.Aside.Alike.{same_calls_are_answered_alike}
use Rattle.ux_laws.proofs.same_calls_are_answered_alike.Goals as goal

pub returns : goal.returns
returns c = same_calls_are_answered_alike
