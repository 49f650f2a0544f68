use Rattle.std.proofs.Common.{rules, ◌≡◌, true}
use Rattle.std.specs.List.{list_all}
use Rattle.std.specs.Char.{is_ascii_digit}
use Rattle.ux_syntax.specs.Reading.{is_plain}
use Rattle.ux_syntax.proofs.Numbers.{number_read, number_refused, is_text}
use Rattle.ux_syntax.proofs.words.U32Word.of.Goals as goal

pub returns-then-has_no_form : goal.returns-then-has_no_form
returns-then-has_no_form c = number_refused c.args.word.now (search rules)

pub returns-in_default : goal.returns-in_default
returns-in_default c =
    let digits : list_all is_ascii_digit c.args.word.now ≡ true = search rules in
    absurd (c.in_default.ensures.cases.0 (is_text c.args.word.now digits))

pub returns-in-Ok-parse : goal.returns-in-Ok-parse
returns-in-Ok-parse c =
    let w = c.args.word.now in
    let digits : list_all is_ascii_digit w ≡ true = search rules in
    let plain : is_plain w ≡ true = search rules in
    rw c.in-Ok-parse.is at (number_read w c.in-Ok.text.now c.parse.result plain digits c.in-Ok.ensures.cases.0 c.parse.ensures.value.0)

pub returns-in-Err : goal.returns-in-Err
returns-in-Err c =
    let w = c.args.word.now in
    let digits : list_all is_ascii_digit w ≡ true = search rules in
    let plain : is_plain w ≡ true = search rules in
    rw c.in-Err.is at (number_read w c.in-Ok.text.now c.parse.result plain digits c.in-Ok.ensures.cases.0 c.parse.ensures.value.0)
