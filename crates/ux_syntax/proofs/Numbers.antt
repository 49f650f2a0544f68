-- Numbers in digits.
use Rattle.std.proofs.Common.{◌≡◌, ℕ, ◌<◌, ◌≤◌, ◌^◌, true, false, ◌&&◌, List, [], ◌∷◌, length, Result, Ok, Err, refl, arith, rules}
use Rattle.std.specs.Prelude.{MatchResult}
use Rattle.std.specs.List.{list_all}
use Rattle.std.specs.Char.{is_ascii_digit}
use Rattle.std.specs.Str.Parse.{ParsesUnsigned, digits_value}
use Rattle.std.proofs.lemmas.Str.Parse.{IsNumeralModel, numerals_by_value, parse_digits}
use Rattle.std.specs.Str.{IsUtf8}
use Rattle.std.proofs.lemmas.Str.{IsUtf8-from_ascii}
use Rattle.std.proofs.lemmas.Fmt.{IsAscii-from_digits}
use Rattle.std.proofs.lemmas.Bool.{le-ltb, lt-ltb}
use Rattle.ux_syntax.specs.declared.fault.Fault.TheVariants.{BadLine}
use Rattle.ux_syntax.specs.Reading.{is_plain, number_at}

pub own : IsNumeralModel (λ ds. list_all is_ascii_digit ds ≡ true) (digits_value 10)
own = numerals_by_value _ (search rules)

plain_length : (w : List ℕ) → is_plain w ≡ true → 0 < length w
plain_length [] h = absurd cc
plain_length (c ∷ cs) h = omega arith

not_small : (n : ℕ) → (n < 2 ^ 32 → ⊥) → 2 ^ 32 ≤ n
not_small n h = omega arith

-- what parse says of digits with one form
pub number_read : {E : Type 0} (w t : List ℕ) (r : Result ℕ E) → is_plain w ≡ true → list_all is_ascii_digit w ≡ true → t ≡ w →
    ParsesUnsigned 32 10 t r
    → MatchResult r (λ n. number_at w ≡ Ok n) (λ _. number_at w ≡ Err BadLine)
unfolding number_at
number_read {E = E} w t (Ok n) plain digits e h =
    let p = parse_digits own {E = E} 32 t (Ok n) h (rw e digits) in
    let value : n ≡ digits_value 10 w = rw (← e) p.1 in
    let small : digits_value 10 w < 2 ^ 32 = rw (← e) p.0.1 in
    rw (plain, digits, lt-ltb _ _ small, ← value) refl
number_read {E = E} w t (Err d) plain digits e h =
    let p = parse_digits own {E = E} 32 t (Err d) h (rw e digits) in
    let large : 2 ^ 32 ≤ digits_value 10 w = rw (← e) (not_small (digits_value 10 t) (λ lt. p (rw e (plain_length w plain), lt))) in
    rw (plain, digits, le-ltb _ _ large) refl

-- a word that is no number
pub number_refused : (w : List ℕ) → (is_plain w && list_all is_ascii_digit w) ≡ false → number_at w ≡ Err BadLine
unfolding number_at
number_refused w h = grind (arith, h)

pub is_text : (w : List ℕ) → list_all is_ascii_digit w ≡ true → IsUtf8 w
is_text w digits = IsUtf8-from_ascii w (IsAscii-from_digits w (own.to w digits))
