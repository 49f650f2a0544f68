use Rattle.std.proofs.Common.{rules}
use Rattle.ux_syntax.specs.Spelling.{plan_of}
use Rattle.ux_replay.specs.Runs.{HasBegun}
use Rattle.ux_threads.proofs.Beginnings.{begun_either}
use Rattle.ux_threads.proofs.run.run_threads.Goals as goal

pub returns-in-Begun-clause-begun : goal.returns-in-Begun-clause-begun
returns-in-Begun-clause-begun g c = λ _.
    let entries = c.in-Begun.entries.items in
    let begun : HasBegun c.args.kernel (plan_of c.args.script.now) entries = rw c.in-Begun.is at c.in_ok-entries.ensures.runs in
    let written = begun_either c.finish_trace-written.result _ _ _ c.finish_trace-written.ensures.ok c.finish_trace-written.ensures.err in
    (entries, begun, rw c.deref-in-Begun.ensures.value at written)

pub returns-in_err-finish_trace-in-Whole-clause-begun : goal.returns-in_err-finish_trace-in-Whole-clause-begun
returns-in_err-finish_trace-in-Whole-clause-begun g c = search (rules, c.in_err-finish_trace-in-Whole.ensures) depth 7 fits 3000

pub returns-in_err-finish_trace-in-Whole-clause-beginning : goal.returns-in_err-finish_trace-in-Whole-clause-beginning
returns-in_err-finish_trace-in-Whole-clause-beginning g c = search (rules, c.in_err-finish_trace-in-Whole.ensures) depth 7 fits 3000

pub returns-in_err-entries-clause-fault : goal.returns-in_err-entries-clause-fault
returns-in_err-entries-clause-fault g c = search (rules, c.in_err-entries.ensures) depth 7 fits 3000
