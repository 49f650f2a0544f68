-- What the calls of a script are expected to answer.
use Rattle.std.specs.Prelude.{◌≡◌, ℕ, ◌+◌, ◌-◌, ◌<◌, Bool, true, false, List, [], ◌∷◌, ◌++◌, codes, length, Option, Some, None, Result, Ok, Err, ◌==◌}
use Rattle.std.specs.Prelude.{◌&&◌, ◌||◌, ◌⊎◌, not, nat_lt, slice_index_or, if◌then◌else◌}
use Rattle.std.specs.List.{flat_map, range_with_len}
use Rattle.std.specs.Option.{is_some}
use Rattle.ux_syntax.specs.declared.expectations.Expectation.{Expectation}
use Rattle.ux_syntax.specs.declared.fault.Fault.{Fault}
use Rattle.ux_syntax.specs.declared.fault.ScriptFault.{ScriptFault}
use Rattle.ux_syntax.specs.declared.reading.Parsed.{Parsed}
use Rattle.ux_syntax.specs.Spelling.{line_limit}
use Rattle.ux_syntax.specs.Text.{plain_line}
use Rattle.ux_syntax.specs.Turns.{is_call}
use Rattle.ux_syntax.specs.Reading.{item_at}
use Rattle.ux_syntax.specs.Tidy.{marked, tidy_line}

-- the line of this number, counted from 1, or an empty one where there is none
abbrev pub line_numbered : List (List ℕ) → ℕ → List ℕ
line_numbered texts n = slice_index_or ([] ∷ texts) n []

abbrev pub is_call_item : Result Parsed Fault → Bool
is_call_item (Ok (Parsed.Line line)) = is_call line.act
is_call_item (Ok other) = false
is_call_item (Err fault) = false

-- the line is a process's, and asks for a call; how long it may be is for the script to say
unfoldable pub asks_call : List ℕ → Bool
asks_call text = is_call_item (item_at (line_limit true) (tidy_line text))

-- the bytes behind `#= `, where there is one at least
abbrev pub behind_mark : List ℕ → Option (List ℕ)
behind_mark [] = None
behind_mark (a ∷ []) = None
behind_mark (a ∷ b ∷ []) = None
behind_mark (a ∷ b ∷ c ∷ reply) = if a == 35 && b == 61 && c == 32 && nat_lt 0 (length reply) then Some reply else None

-- the comment line as it is usually written
abbrev pub usual_line : List ℕ → List ℕ
usual_line reply = codes "#= " ++ reply

-- what a comment line expects, in plain words
abbrev pub expected_in : List ℕ → Option (List ℕ)
expected_in text = elim (marked text) [ None ↦ None | Some reply ↦ behind_mark (plain_line (usual_line reply)) ]

abbrev pub expecting : ℕ → Option (List ℕ) → List Expectation
expecting n None = []
expecting n (Some reply) = record { line = n; reply = reply } ∷ []

-- what the call's line of this number is expected to answer, where the line behind it says so
abbrev pub expectation_of : List (List ℕ) → ℕ → List Expectation
expectation_of texts n = if asks_call (line_numbered texts n) then expecting n (expected_in (line_numbered texts (n + 1))) else []

-- what the calls' lines are expected to answer, each with its number, in the order of the lines
abbrev pub expectations : List (List ℕ) → List Expectation
expectations texts = flat_map (expectation_of texts) (range_with_len 0 (length texts))

-- the line of this number expects a reply, and the line before it is no call's
abbrev pub is_misplaced : List (List ℕ) → ℕ → Bool
is_misplaced texts n = is_some (expected_in (line_numbered texts n)) && not (asks_call (line_numbered texts (n - 1)))

-- memory ran out, or the fault names the first line that is misplaced
abbrev pub IsFaultOfPlace : List (List ℕ) → ScriptFault → Type 0
IsFaultOfPlace texts f =
    (f ≡ ScriptFault.NoMemory)
    ⊎ ((n : ℕ) × (f ≡ ScriptFault.BadLine n) × (is_misplaced texts n ≡ true) × ((m : ℕ) → m < n → is_misplaced texts m ≡ false))
