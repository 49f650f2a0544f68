use Rattle.std.proofs.Common.{rules, tests, sym, ◌∙◌, ◌==◌}
use Rattle.std.proofs.lemmas.Iterator.{YieldsList-from_slice}
use Rattle.std.proofs.lemmas.Iterator.Search.{position_from_yields_List}
use Rattle.ux_syntax.proofs.Plainly.{word_to_blank, word_to_end}
use Rattle.ux_syntax.proofs.plain.first_word.Goals as goal

pub returns-in-Some : goal.returns-in-Some
returns-in-Some c =
    let found = position_from_yields_List (λ b. b == 32) _ _ c.position.result c.position.ensures.ran
    (YieldsList-from_slice c.args.text.now (search rules)) (λ x b q k. search (rules, tests)) in
    word_to_blank c.args.text.now c.split_at.result.0.now c.split_at.result.1.now c.in-Some.blank c.split_at.ensures.front
    c.split_at.ensures.back (sym c.in-Some.is ∙ found)

pub returns-in-None : goal.returns-in-None
returns-in-None c =
    let found = position_from_yields_List (λ b. b == 32) _ _ c.position.result c.position.ensures.ran
    (YieldsList-from_slice c.args.text.now (search rules)) (λ x b q k. search (rules, tests)) in
    word_to_end c.args.text.now (sym c.in-None.is ∙ found)
