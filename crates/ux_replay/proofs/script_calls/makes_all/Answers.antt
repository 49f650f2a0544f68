use Rattle.std.proofs.Common.{◌≡◌, ◌+◌, ℕ, rules, tests, arith}
use Rattle.std.proofs.lemmas.Iterator.{YieldsList-from_range, cases_from_all}
use Rattle.ux_syntax.specs.Spelling.{plan_of}
use Rattle.ux_replay.specs.Runs.{requests_of, turns}
use Rattle.ux_replay.proofs.Ranges.{decides_below}
use Rattle.ux_replay.proofs.script_calls.makes_all.Goals as goal

pub returns : goal.returns
returns c =
    let n = c.args.count + 1 in
    let P = λ (p : ℕ). requests_of p c.args.entries.now ≡ turns (plan_of c.args.script.now) p in
    let each = decides_below n c.all.result P
    (cases_from_all _ _ _ P (λ p. ¬ P p) c.all.ensures.ran (YieldsList-from_range 0 n n (search rules) (omega arith))
    (λ x q k. search (rules, tests)) (λ x q k. search (rules, tests))) in
    (λ t p within. each.0 t p (omega arith), λ all. each.1 (λ p below. all p (omega arith)))
