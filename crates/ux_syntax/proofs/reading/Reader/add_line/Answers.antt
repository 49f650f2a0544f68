use Rattle.std.proofs.Common.{rules, ◌-◌}
use Rattle.ux_syntax.specs.Spelling.{plan_of}
use Rattle.ux_syntax.proofs.Joining.{exited_bad}
use Rattle.ux_syntax.proofs.reading.Reader.add_line.Goals as goal

pub returns-clause-reads : goal.returns-clause-reads
returns-clause-reads c = search rules

pub returns-then-index-clause-reads : goal.returns-then-index-clause-reads
returns-then-index-clause-reads c =
    exited_bad (plan_of c.args.self.now.script) c.args.line c.args.self.now.exited.items (c.args.line.pid.0 - 1)
    c.index.result.now c.requires (search rules) (search rules) (search rules) (search rules) (search rules) c.if-index.true
