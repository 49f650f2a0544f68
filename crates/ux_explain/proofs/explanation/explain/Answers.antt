use Rattle.std.proofs.Common.{List, ℕ}
use Rattle.ux_syntax.specs.Spelling.{lines_of}
use Rattle.ux_explain.specs.Places.{NamesNone}
use Rattle.ux_explain.proofs.Completions.{none_at}
use Rattle.ux_explain.proofs.explanation.explain.Goals as goal

pub returns-in_default-clause-none : goal.returns-in_default-clause-none
returns-in_default-clause-none c = c.in_default.ensures.none (lines_of c.args.text.now)

pub returns-clause-none : goal.returns-clause-none
returns-clause-none c =
    none_at (λ (lines : List (List ℕ)). NamesNone lines c.args.fault.now) (lines_of c.args.text.now) c.explain_line.result
    c.explain_line.ensures.none
