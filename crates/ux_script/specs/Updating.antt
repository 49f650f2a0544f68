-- A script's text with what its calls answered, in comments behind them.
use Rattle.std.specs.Prelude.{ℕ, suc, Bool, false, not, ◌&&◌, if◌then◌else◌, List, [], ◌∷◌, ◌++◌, codes, Option, Some, None}
use Rattle.std.specs.Option.{is_some}
use Rattle.ux_model.specs.Types.{Entry}
use Rattle.ux_syntax.specs.Expectations.{asks_call, expected_in}
use Rattle.ux_syntax.specs.Tidy.{marked}
use Rattle.ux_script.specs.Comparing.{answer_at, is_met}

-- a further line
abbrev pub next_line : List ℕ → List ℕ
next_line text = 10 ∷ text

-- the comment that expects what a call answered, or nothing of one that wasn't made
abbrev pub reply_line : Option (List ℕ) → List ℕ
reply_line None = []
reply_line (Some answer) = next_line (codes "#= " ++ answer)

-- another reply is expected
abbrev pub differs : Option (List ℕ) → Option (List ℕ) → Bool
differs None got = false
differs (Some reply) got = not (is_met reply got)

-- A comment behind a call: it stays as it is written where the call answered so, where it expects nothing, and where the call wasn't made.
abbrev pub mended : List ℕ → Option (List ℕ) → List ℕ
mended comment got = if is_some got && differs (expected_in comment) got then reply_line got else next_line comment

-- the line behind a call, which may expect something, and what the call answered
abbrev pub behind_call : List ℕ → Option (List ℕ) → List ℕ
behind_call text got = if is_some (marked text) then mended text got else reply_line got ++ next_line text

abbrev pub behind : Bool → List ℕ → Option (List ℕ) → List ℕ
behind asked text got = if asked then behind_call text got else next_line text

-- the lines behind the first so many, of which the last asks for a call or doesn't
abbrev pub updated_from : (ℕ → Option (List ℕ)) → ℕ → Bool → List (List ℕ) → List ℕ
updated_from answers n asked [] = if asked then reply_line (answers n) else []
updated_from answers n asked (text ∷ texts) = behind asked text (answers n) ++ updated_from answers (suc n) (asks_call text) texts

-- the text of these lines, behind each call of which stands what it answered: beside each call of a run stands the number of its line
abbrev pub updated : List (Option ℕ) → List Entry → List (List ℕ) → List ℕ
updated lines es [] = []
updated lines es (text ∷ texts) = text ++ updated_from (λ n. answer_at n lines es) 1 (asks_call text) texts
