use Rattle.std.proofs.Common.{drop}
use Rattle.ux_model.specs.State.{State}
use Rattle.ux_replay.specs.Again.{AreAgain}
use Rattle.ux_replay.proofs.check.make_again.Given as goal

-- where the entries that are left are made again, all are
abbrev pub invariant-loop-index : goal.invariant-loop-index
invariant-loop-index g l =
    (end : State) → AreAgain l.kernel l.index (drop l.index l.history) end → AreAgain l.fn.kernel 0 l.history end
