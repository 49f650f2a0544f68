use Rattle.std.proofs.Common.{◌≡◌, List, true, IfOk, sym, subst, rules}
use Rattle.std.proofs.lemmas.Result.{IfOk-weaker}
use Rattle.ux_model.specs.Types.{Entry}
use Rattle.ux_syntax.specs.Spelling.{plan_of}
use Rattle.ux_replay.specs.Runs.{HasBegun}
use Rattle.ux_threads.proofs.compared.begun_history.Goals as goal

pub returns-clause-begun : goal.returns-clause-begun
returns-clause-begun g c =
    let book = c.args.book.now in
    let s = plan_of c.args.script.now in
    let copied : IfOk c.map_err.result (λ entries. entries.items ≡ book.entries) = search rules in
    let begun : HasBegun g.W.BookName.boot s book.entries =
    record { legal = search rules; calls = rw c.entries.ensures.entries at (c.makes_first.ensures.0 c.if-not-makes_first.false) } in
    IfOk-weaker c.map_err.result _ _ (λ entries same. subst (λ (es : List Entry). HasBegun g.W.BookName.boot s es) (sym same) begun) copied

pub returns-then-not-makes_first-clause-stranger : goal.returns-then-not-makes_first-clause-stranger
returns-then-not-makes_first-clause-stranger g c = λ _ first.
    let made : c.makes_first.result ≡ true = c.makes_first.ensures.1 (rw (c.entries.ensures.entries) first) in search rules
