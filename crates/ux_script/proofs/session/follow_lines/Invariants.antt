use Rattle.std.proofs.Common.{◌≡◌, true, length}
use Rattle.ux_syntax.specs.Spelling.{Plan}
use Rattle.ux_syntax.specs.Joining.{is_begun}
use Rattle.ux_script.specs.Following.{Follows, Prints}
use Rattle.ux_script.specs.Hearing.{HearsOn}
use Rattle.ux_script.proofs.session.follow_lines.Given as goal

-- the lines so far were heard, their calls were made, and their trace was written
abbrev pub invariant-loop : goal.invariant-loop
invariant-loop g l = record {
  heard : HearsOn l.initial.source l.initial.reader l.source l.reader;
  begun : is_begun l.reader ≡ true;
  made : Follows l.serial l.reader (length (Plan.lines l.reader));
  same_boot : l.serial.boot ≡ l.initial.serial.boot;
  printed : Prints (g.W.Write.contents l.fn.writer) (g.W.Write.contents l.writer) l.initial.serial.entries l.serial.entries;
}
