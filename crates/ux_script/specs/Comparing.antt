-- The answers of a run beside those that its script expects.
use Rattle.std.specs.Prelude.{ℕ, Bool, false, List, [], ◌∷◌, ◌++◌, Option, Some, None, codes, decimal, ◌==◌, if◌then◌else◌}
use Rattle.std.specs.List.{flat_map}
use Rattle.std.specs.Str.{bytes_eq}
use Rattle.ux_model.specs.Types.{Entry}
use Rattle.ux_syntax.specs.declared.expectations.Expectation.{Expectation}
use Rattle.ux_trace.specs.Echoes.{answer}

abbrev pub is_line : ℕ → Option ℕ → Bool
is_line n None = false
is_line n (Some m) = m == n

-- the answer of the first call whose line has this number, as a trace has it, where one was made: each call stands beside its line's number
abbrev pub answer_at : ℕ → List (Option ℕ) → List Entry → Option (List ℕ)
answer_at n lines [] = None
answer_at n [] (e ∷ es) = None
answer_at n (line ∷ lines) (e ∷ es) = if is_line n line then Some (answer e) else answer_at n lines es

abbrev pub is_met : List ℕ → Option (List ℕ) → Bool
is_met reply None = false
is_met reply (Some got) = bytes_eq got reply

abbrev pub or_nothing : Option (List ℕ) → List ℕ
or_nothing None = codes "nothing"
or_nothing (Some got) = got

-- line L: expected REPLY, got REPLY
abbrev pub difference_line : ℕ → List ℕ → Option (List ℕ) → List ℕ
difference_line n reply got =
    codes "line " ++ (decimal n ++ (codes ": expected " ++ (reply ++ (codes ", got " ++ (or_nothing got ++ (10 ∷ []))))))

-- the line of a call that answered this, or nothing where that was expected
abbrev pub difference : Expectation → Option (List ℕ) → List ℕ
difference x got = if is_met x.reply got then [] else difference_line x.line x.reply got

-- the lines of all calls that answered otherwise than expected, or didn't answer
abbrev pub differences : List (Option ℕ) → List Entry → List Expectation → List ℕ
differences lines es expected = flat_map (λ x. difference x (answer_at x.line lines es)) expected
