use Rattle.std.proofs.Common.{sym, ◌∙◌}
use Rattle.ux_syntax.proofs.Tidying.{begun}
use Rattle.ux_syntax.proofs.tidy.tidy_text.Goals as goal

pub loop-line-init : goal.loop-line-init
loop-line-init c = begun c.args.text.now _ _ _ _ c.in_ok-lines.ensures (sym c.deref.ensures.value ∙ c.in-Some.ensures.cases.0) c.in_ok-tidy.ensures
