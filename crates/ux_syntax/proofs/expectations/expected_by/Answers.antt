use Rattle.std.proofs.Common.{Bor, List, ℕ, [], map, rules, arith}
use Rattle.std.proofs.lemmas.List.{length-map}
use Rattle.ux_syntax.proofs.Expecting.{begun, next_line, has_more, place_fault, all_found, all_placed}
use Rattle.ux_syntax.proofs.expectations.expected_by.Goals as goal

abbrev now : Bor (List ℕ) → List ℕ
now text = text.now

abbrev none : Bor (List ℕ)
none = record { ref_ptr = (0, 0); now = [] }

pub loop-line-init : goal.loop-line-init
loop-line-init c = begun (map now c.args.texts.now) c.new-found.result.items c.new-found.ensures.items

pub returns-in_err-add_expected-clause-fault : goal.returns-in_err-add_expected-clause-fault
returns-in_err-add_expected-clause-fault c =
    let line = next_line c.args.texts.now c.loop-line.line none c.loop-line-test.true in
    let fault = place_fault (map now c.args.texts.now) _ _ _ _ _ c.loop-line.invariant line.0 c.in_err-add_expected.ensures.fault in
    search rules

pub loop-line-preserved : goal.loop-line-preserved
loop-line-preserved c =
    let line = next_line c.args.texts.now c.loop-line.line none c.loop-line-test.true in
    has_more (map now c.args.texts.now) _ _ _ _ _ _ c.loop-line.invariant line c.in_ok-add_expected.ensures.found
    c.in_ok-add_expected.ensures.placed c.in_ok-behind_call.ensures

pub returns-clause-found : goal.returns-clause-found
returns-clause-found c = all_found (map now c.args.texts.now) _ _ _ c.loop-line.invariant
    (omega (arith, c.loop-line-test.false, length-map c.args.texts.now now))

pub returns-clause-placed : goal.returns-clause-placed
returns-clause-placed c = all_placed (map now c.args.texts.now) _ _ _ c.loop-line.invariant
    (omega (arith, c.loop-line-test.false, length-map c.args.texts.now now))
