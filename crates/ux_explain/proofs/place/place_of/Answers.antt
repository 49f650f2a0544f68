use Rattle.ux_explain.proofs.Completions.{first_column}
use Rattle.ux_explain.proofs.place.place_of.Goals as goal

pub returns : goal.returns
returns c = first_column c.args.text.now c.at.result.column c.at.ensures
