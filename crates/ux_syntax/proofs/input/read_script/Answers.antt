use Rattle.ux_syntax.proofs.Feeding.{read_spells, read_orderly, spelled_reads, read_refuses}
use Rattle.ux_syntax.proofs.input.read_script.Goals as goal

pub returns-clause-found : goal.returns-clause-found
returns-clause-found g c = read_spells (g.R.Read.remaining c.args.reader.now) c.read_lines_of.result c.read_lines_of.ensures.found

pub returns-clause-orderly : goal.returns-clause-orderly
returns-clause-orderly g c = read_orderly (g.R.Read.remaining c.args.reader.now) c.read_lines_of.result c.read_lines_of.ensures.found

pub returns-clause-only : goal.returns-clause-only
returns-clause-only g c = spelled_reads (g.R.Read.remaining c.args.reader.now) c.read_lines_of.result c.read_lines_of.ensures.found

pub returns-clause-fault : goal.returns-clause-fault
returns-clause-fault g c = read_refuses (g.R.Read.remaining c.args.reader.now) c.read_lines_of.result c.read_lines_of.ensures.found
