use Rattle.std.proofs.Common.{rules, tests, sym, ◌∙◌, ap}
use Rattle.std.specs.Str.{bytes_eq}
use Rattle.std.proofs.lemmas.Iterator.{YieldsList-from_slice}
use Rattle.std.proofs.lemmas.Iterator.Search.{find_from_yields_List}
use Rattle.std.specs.Option.{option_map}
use Rattle.ux_fields.specs.Forms.{word_text, script_words}
use Rattle.ux_syntax.specs.Reading.{word_at, or_bad}
use Rattle.ux_syntax.proofs.Choices.{chosen_found}
use Rattle.ux_syntax.proofs.calls.word_of.Goals as goal

pub returns-in-Some : goal.returns-in-Some
unfolding word_at
returns-in-Some c =
    let found = find_from_yields_List (λ w. bytes_eq c.args.word.now (word_text w)) _ _ c.find.result c.find.ensures.ran
    (YieldsList-from_slice script_words (search rules)) (λ x b q k. search (rules, tests)) in
    let e = ap (option_map (λ w. w.now)) c.in-Some.is in
    chosen_found word_text script_words c.args.word.now ∙ ap or_bad (sym found ∙ e)

pub returns-in-None : goal.returns-in-None
unfolding word_at
returns-in-None c =
    let found = find_from_yields_List (λ w. bytes_eq c.args.word.now (word_text w)) _ _ c.find.result c.find.ensures.ran
    (YieldsList-from_slice script_words (search rules)) (λ x b q k. search (rules, tests)) in
    let e = ap (option_map (λ w. w.now)) c.in-None.is in
    chosen_found word_text script_words c.args.word.now ∙ ap or_bad (sym found ∙ e)
