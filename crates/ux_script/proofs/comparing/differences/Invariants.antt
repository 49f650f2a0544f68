use Rattle.std.proofs.Common.{◌≡◌, take}
use Rattle.ux_script.specs.Comparing.{differences}
use Rattle.ux_script.proofs.comparing.differences.Given as goal

abbrev pub invariant-loop-one : goal.invariant-loop-one
invariant-loop-one l = l.text.items ≡ differences l.lines l.history (take l.one-index l.expected)
