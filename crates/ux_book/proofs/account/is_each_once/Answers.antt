use Rattle.std.proofs.Common.{◌≡◌, ◌+◌, ℕ, rules, tests, arith}
use Rattle.std.proofs.lemmas.Iterator.{YieldsList-from_range, cases_from_all}
use Rattle.ux_book.specs.Settling.{callers_of}
use Rattle.ux_book.proofs.Settling.{once_by}
use Rattle.ux_book.proofs.account.is_each_once.Goals as goal

pub returns : goal.returns
returns g c =
    let n = c.args.count in
    let P = λ (p : ℕ). callers_of p c.args.spents.now ≡ 1 in
    once_by n c.all.result c.args.spents.now
    (cases_from_all _ _ _ P (λ p. ¬ P p) c.all.ensures.ran (YieldsList-from_range 1 (n + 1) n (search rules) (omega arith))
    (λ x q k. search (rules, tests)) (λ x q k. search (rules, tests)))
