use Rattle.std.proofs.Common.{◌≡◌, suc, map, drop}
use Rattle.ux_syntax.specs.Spelling.{plan_of}
use Rattle.ux_syntax.specs.Reading.{lines_at, script_at}
use Rattle.ux_syntax.specs.Results.{KnowsExits}
use Rattle.ux_syntax.proofs.reading.read_lines.Given as goal

abbrev pub invariant-loop-index : goal.invariant-loop-index
invariant-loop-index l =
    KnowsExits (plan_of l.reader.script) l.reader.exited.items
    × (lines_at (suc l.index) (plan_of l.reader.script) (map (λ text. text.now) (drop l.index l.texts)) ≡ script_at
    (map (λ text. text.now) l.texts))
