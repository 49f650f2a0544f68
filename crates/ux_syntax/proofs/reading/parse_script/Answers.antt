use Rattle.ux_syntax.specs.Spelling.{lines_of}
use Rattle.ux_syntax.proofs.Scripts.Results.{gives_found, gives_orderly, gives_only, gives_fault}
use Rattle.ux_syntax.proofs.reading.parse_script.Goals as goal

pub returns-clause-found : goal.returns-clause-found
returns-clause-found c = gives_found c.read_text.result (lines_of c.args.text.now) c.read_text.ensures

pub returns-clause-orderly : goal.returns-clause-orderly
returns-clause-orderly c = gives_orderly c.read_text.result (lines_of c.args.text.now) c.read_text.ensures

pub returns-clause-only : goal.returns-clause-only
returns-clause-only c = λ s h. gives_only c.read_text.result (lines_of c.args.text.now) s c.read_text.ensures h

pub returns-clause-fault : goal.returns-clause-fault
returns-clause-fault c = gives_fault c.read_text.result (lines_of c.args.text.now) c.read_text.ensures
