use Rattle.std.proofs.Common.{◌≡◌, ◌++◌}
use Rattle.ux_syntax.specs.Spelling.{plan_of}
use Rattle.ux_syntax.specs.Turns.{call_lines}
use Rattle.ux_script.specs.Runs.{exits_of, Makes, Grows}
use Rattle.ux_script.proofs.run.make_exits.Given as goal

-- all calls of the script were made, and the missing exits of the processes before this one
abbrev pub invariant-loop-index : goal.invariant-loop-index
invariant-loop-index g l = record {
  so_far : Makes l.serial (plan_of l.script) (call_lines l.script.lines.items ++ exits_of l.script.lines.items l.index);
  same_boot : l.serial.boot ≡ l.initial.serial.boot;
  grows : Grows l.initial.serial.entries l.serial.entries;
}
