use Rattle.ux_syntax.specs.Reading.{no_lines}
use Rattle.ux_script.specs.Hearing.{HearsOn}
use Rattle.ux_script.proofs.session.read_header.Given as goal

-- the lines so far were heard
abbrev pub invariant-loop : goal.invariant-loop
invariant-loop g l = HearsOn l.initial.source no_lines l.source l.reader
