use Rattle.ux_model.proofs.Invariants.Dangling.{nothing_dangles}
use Rattle.ux_model.proofs.nothing_dangles.Goals as goal

pub returns : goal.returns
returns c = nothing_dangles
