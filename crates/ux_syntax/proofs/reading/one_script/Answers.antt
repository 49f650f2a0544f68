use Rattle.ux_syntax.specs.Spelling.{lines_of}
use Rattle.ux_syntax.proofs.Scripts.Whole.{script_unique}
use Rattle.ux_syntax.proofs.reading.one_script.Goals as goal

pub returns : goal.returns
returns c = λ text. script_unique (lines_of text)
