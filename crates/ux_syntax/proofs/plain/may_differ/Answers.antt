use Rattle.std.proofs.Common.{rules, tests, sym, ◌∙◌}
use Rattle.std.proofs.lemmas.Iterator.{YieldsList-from_slice}
use Rattle.std.proofs.lemmas.Iterator.Search.{any_from_yields_List}
use Rattle.ux_syntax.specs.Text.{may_be_special}
use Rattle.ux_syntax.proofs.Plainly.{none_special}
use Rattle.ux_syntax.proofs.plain.may_differ.Goals as goal

pub returns : goal.returns
returns c = λ none.
    let found = any_from_yields_List (λ f. may_be_special f c.args.text.now) _ _ c.any.result c.any.ensures.ran
    (YieldsList-from_slice c.args.fields.now (search rules)) (λ x b q k. search (rules, tests)) in
    none_special c.args.fields.now c.args.text.now (sym found ∙ none)
