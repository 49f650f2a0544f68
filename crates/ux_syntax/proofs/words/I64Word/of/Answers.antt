use Rattle.std.proofs.Common.{rules, ◌≡◌, true, false, [], ◌∷◌, w64, SFits}
use Rattle.std.specs.List.{list_all}
use Rattle.std.specs.Char.{is_ascii_digit}
use Rattle.std.specs.Str.{bytes_eq}
use Rattle.std.proofs.lemmas.Int.{to_z-of_z}
use Rattle.ux_syntax.specs.Reading.{is_plain, without_minus}
use Rattle.ux_syntax.proofs.Offsets.{offset_read, offset_refused, is_offset_text}
use Rattle.ux_syntax.proofs.words.I64Word.of.Goals as goal

pub returns-then-has_no_form : goal.returns-then-has_no_form
returns-then-has_no_form c = offset_refused c.args.word.now (search rules)

pub returns-in_default : goal.returns-in_default
returns-in_default c =
    let w = c.args.word.now in
    let plain : is_plain (without_minus w) ≡ true = search rules in
    let digits : list_all is_ascii_digit (without_minus w) ≡ true = search rules in
    absurd (c.in_default.ensures.cases.0 (is_offset_text w plain digits))

pub returns-in-Ok-parse : goal.returns-in-Ok-parse
returns-in-Ok-parse c =
    let w = c.args.word.now in
    let plain : is_plain (without_minus w) ≡ true = search rules in
    let digits : list_all is_ascii_digit (without_minus w) ≡ true = search rules in
    let other : bytes_eq w (45 ∷ 48 ∷ []) ≡ false = search rules in
    let fits : SFits w64 c.in-Ok-parse.offset = search rules in
    let read = offset_read w c.in-Ok.text.now c.parse.result (plain, digits, other) c.in-Ok.ensures.cases.0 c.parse.ensures.value.0 in
    rw (to_z-of_z w64 c.in-Ok-parse.offset fits) (rw c.in-Ok-parse.is at read)

pub returns-in-Err : goal.returns-in-Err
returns-in-Err c =
    let w = c.args.word.now in
    let plain : is_plain (without_minus w) ≡ true = search rules in
    let digits : list_all is_ascii_digit (without_minus w) ≡ true = search rules in
    let other : bytes_eq w (45 ∷ 48 ∷ []) ≡ false = search rules in
    rw c.in-Err.is at (offset_read w c.in-Ok.text.now c.parse.result (plain, digits, other) c.in-Ok.ensures.cases.0 c.parse.ensures.value.0)
