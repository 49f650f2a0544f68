use Rattle.std.proofs.Common.{◌≡◌, true, subst}
use Rattle.ux_syntax.specs.Spelling.{Plan, plan_of}
use Rattle.ux_syntax.specs.Joining.{is_begun, Continues}
use Rattle.ux_syntax.proofs.Joining.{read_continues}
use Rattle.ux_syntax.proofs.line_reader.LineReader.read_line.Goals as goal

pub returns-clause-continues : goal.returns-clause-continues
returns-clause-continues c =
    subst (λ (s : Plan). is_begun s ≡ true → Continues s (plan_of c.read_line.new.self.script)) c.self.view_is
    (read_continues _ _ c.args.text.now c.read_line.result c.read_line.ensures.reads c.read_line.ensures.kept)
