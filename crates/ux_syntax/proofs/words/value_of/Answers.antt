use Rattle.std.proofs.Common.{rules, tests, sym, ◌∙◌, ap, Some, None}
use Rattle.std.specs.Str.{bytes_eq}
use Rattle.std.proofs.lemmas.Iterator.{YieldsList-from_slice}
use Rattle.std.proofs.lemmas.Iterator.Search.{find_from_yields_List}
use Rattle.std.specs.Option.{option_map}
use Rattle.ux_syntax.proofs.Choices.{beside_is}
use Rattle.ux_syntax.proofs.words.value_of.Goals as goal

pub returns-in-Some : goal.returns-in-Some
returns-in-Some g c =
    let found = find_from_yields_List (λ row. bytes_eq c.args.word.now row.0.now) _ _ c.find.result c.find.ensures.ran
    (YieldsList-from_slice c.args.table.now (search rules)) (λ x b q k. search (rules, tests)) in
    let e = ap (option_map (λ row. row.now)) c.in-Some.is in
    beside_is c.args.table.now (λ row. row.0.now) (λ row. row.1) c.args.word.now (Some c.in-Some.row.now) (sym found ∙ e)

pub returns-in-None : goal.returns-in-None
returns-in-None g c =
    let found = find_from_yields_List (λ row. bytes_eq c.args.word.now row.0.now) _ _ c.find.result c.find.ensures.ran
    (YieldsList-from_slice c.args.table.now (search rules)) (λ x b q k. search (rules, tests)) in
    let e = ap (option_map (λ row. row.now)) c.in-None.is in
    beside_is c.args.table.now (λ row. row.0.now) (λ row. row.1) c.args.word.now None (sym found ∙ e)
