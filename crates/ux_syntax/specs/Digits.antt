-- Digits and numbers, and what is at fault where there are none.
use Rattle.std.specs.Prelude.{ℕ, ◌+◌, ◌-◌, ◌^◌, Bool, true, false, List, [], ◌∷◌, Result, Ok, Err, nat_lt, nat_le, ◌==◌, ◌&&◌}
use Rattle.std.specs.Prelude.{if◌then◌else◌, not}
use Rattle.std.specs.List.{list_all}
use Rattle.std.specs.Char.{is_ascii_digit}
use Rattle.std.specs.Str.Parse.{digits_value}
use Rattle.ux_syntax.specs.declared.fault.Fault.{Fault}
use Rattle.ux_syntax.specs.declared.fault.Fault.TheVariants.{BadLine}

infixl 10 ◌>>=◌
abbrev pub ◌>>=◌ : {A B : Type 0} → Result A Fault → (A → Result B Fault) → Result B Fault
(Ok x) >>= f = f x
(Err e) >>= f = Err e

-- digits that don't begin with a 0, or one digit
abbrev pub is_plain : List ℕ → Bool
is_plain [] = false
is_plain (c ∷ []) = true
is_plain (c ∷ d ∷ ds) = not (c == 48)

unfoldable pub number_at : List ℕ → Result ℕ Fault
number_at w = if is_plain w && list_all is_ascii_digit w && nat_lt (digits_value 10 w) (2 ^ 32) then Ok (digits_value 10 w) else Err BadLine

abbrev pub digit_at : ℕ → Result ℕ Fault
digit_at c = if nat_le 48 c && nat_le c 57 then Ok (c - 48) else if nat_le 97 c && nat_le c 102 then Ok (c - 97 + 10) else Err BadLine
