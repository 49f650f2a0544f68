use Rattle.std.proofs.Common.{List, ℕ}
use Rattle.ux_explain.specs.Places.{NamesNone}
use Rattle.ux_explain.proofs.Completions.{where_none}
use Rattle.ux_explain.proofs.explanation.explain_line.Goals as goal

pub returns-in_default-2-clause-none : goal.returns-in_default-2-clause-none
returns-in_default-2-clause-none c =
    where_none ((lines : List (List ℕ)) → NamesNone lines c.args.fault.now) _ c.in_default-2.is c.in_ok-found.ensures.none
