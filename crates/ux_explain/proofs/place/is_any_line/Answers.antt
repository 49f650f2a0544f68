use Rattle.ux_explain.proofs.Completions.{all_columns}
use Rattle.ux_explain.proofs.place.is_any_line.Goals as goal

pub returns : goal.returns
returns c = all_columns c.is_line.result c.args.text.now _ c.is_line.ensures.exact
