use Rattle.std.proofs.Common.{rules, sym, ◌∙◌, add-one}
use Rattle.ux_syntax.specs.Spelling.{plan_of}
use Rattle.ux_syntax.specs.Continuing.{continued}
use Rattle.ux_syntax.proofs.Feeding.{line_ends}
use Rattle.ux_syntax.proofs.progress.Progress.end_line.Goals as goal

pub returns-clause-ok : goal.returns-clause-ok
returns-clause-ok c = λ rest.
    line_ends (plan_of c.args.self.now.reader.script) (plan_of c.read_line.new.self.script) c.args.self.now.number
    c.args.self.now.line.items rest (search rules)
    ∙ (λ j. continued (plan_of c.read_line.new.self.script) ((sym (add-one c.args.self.now.number)) j) (sym c.clear.ensures.items j) rest)
