use Rattle.ux_explain.proofs.Completions.{is_limit}
use Rattle.ux_explain.proofs.explanation.long_fault.Goals as goal

pub returns : goal.returns
returns c = is_limit _ c.at.result.column _ c.at.ensures c.line_limit-limit.ensures
