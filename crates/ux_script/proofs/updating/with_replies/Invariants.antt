use Rattle.std.proofs.Common.{map}
use Rattle.ux_syntax.specs.Spelling.{lines_of}
use Rattle.ux_script.specs.Updating.{updated}
use Rattle.ux_script.proofs.Updates.{HasWritten}
use Rattle.ux_script.proofs.updating.with_replies.Given as goal

abbrev pub invariant-loop-index : goal.invariant-loop-index
invariant-loop-index l =
    HasWritten l.fn.lines l.history (updated l.fn.lines l.history (lines_of l.fn.text)) (map (λ text. text.now) l.rest) l.index l.asked l.out.items
