use Rattle.std.proofs.Common.{◌≡◌, ◌++◌, drop}
use Rattle.std.specs.List.{flat_map}
use Rattle.ux_syntax.specs.Tidy.{tidy_line, feed, tidy_text}
use Rattle.ux_syntax.proofs.tidy.tidy_text.Given as goal

-- with the lines that are left it is all
abbrev pub invariant-loop-line : goal.invariant-loop-line
invariant-loop-line l = l.tidy.items ++ flat_map (λ t. feed (tidy_line t.now)) (drop l.line-index l.rest) ≡ tidy_text l.fn.text
