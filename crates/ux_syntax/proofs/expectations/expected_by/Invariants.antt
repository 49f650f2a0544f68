use Rattle.std.proofs.Common.{map}
use Rattle.ux_syntax.proofs.Expecting.{HasCome}
use Rattle.ux_syntax.proofs.expectations.expected_by.Given as goal

abbrev pub invariant-loop-line : goal.invariant-loop-line
invariant-loop-line l = HasCome (map (λ text. text.now) l.texts) l.line l.behind_call l.found.items
