use Rattle.std.proofs.Common.{rules}
use Rattle.ux_syntax.proofs.words.has_no_form.Goals as goal

pub returns-in-len1-up : goal.returns-in-len1-up
returns-in-len1-up c = search rules
