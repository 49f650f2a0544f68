use Rattle.std.proofs.Common.{◌+◌, ◌*◌, ◌≤◌}
use Rattle.ux_syntax.specs.Spelling.{plan_of}
use Rattle.ux_syntax.specs.Results.{KnowsExits}
use Rattle.ux_syntax.proofs.Feeding.{IsReadOn}
use Rattle.ux_syntax.proofs.input.read_lines_of.Given as goal

abbrev pub invariant-loop-turn : goal.invariant-loop-turn
invariant-loop-turn g l =
    KnowsExits (plan_of l.progress.reader.script) l.progress.reader.exited.items
    × (l.progress.number ≤ 1 + 4096 * l.turn)
    × IsReadOn (g.R.Read.remaining l.initial.reader) (g.R.Read.remaining l.reader) (plan_of l.progress.reader.script) l.progress.number
    l.progress.line.items
