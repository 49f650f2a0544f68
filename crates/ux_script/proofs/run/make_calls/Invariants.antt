use Rattle.std.proofs.Common.{◌≡◌, take}
use Rattle.ux_syntax.specs.Spelling.{plan_of}
use Rattle.ux_syntax.specs.Turns.{call_lines}
use Rattle.ux_script.specs.Runs.{Makes, Grows}
use Rattle.ux_script.proofs.run.make_calls.Given as goal

-- the calls before this line were made
abbrev pub invariant-loop-index : goal.invariant-loop-index
invariant-loop-index g l = record {
  so_far : Makes l.serial (plan_of l.script) (call_lines (take l.index l.script.lines.items));
  same_boot : l.serial.boot ≡ l.initial.serial.boot;
  grows : Grows l.initial.serial.entries l.serial.entries;
}
