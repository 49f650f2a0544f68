-- Where a line goes wrong.
use Rattle.std.specs.Prelude.{◌≡◌, ◌-◌, ◌<◌, ◌⊎◌, ℕ, true, false, List, [], ◌++◌, take, length, slice_index_or}
use Rattle.ux_syntax.specs.declared.fault.ScriptFault.{ScriptFault}
use Rattle.ux_syntax.specs.Spelling.{lines_of, line_limit}
use Rattle.ux_syntax.specs.Forms.{is_line}
use Rattle.ux_explain.specs.declared.excerpt.Excerpt.{Excerpt}

-- further bytes make of these a line that a script may have somewhere, however long it is
abbrev pub CanBecomeLine : List ℕ → Type 0
CanBecomeLine text = (limit : ℕ) × (rest : List ℕ) × (is_line limit (text ++ rest) ≡ true)

-- what stands before the column can still become a line
abbrev pub IsPlace : List ℕ → ℕ → Type 0
IsPlace text column = CanBecomeLine (take column text)

-- as many bytes as a line may have, without a line `serial` or behind it
abbrev pub IsLimit : ℕ → Type 0
IsLimit column = (column ≡ line_limit false) ⊎ (column ≡ line_limit true)

-- The column where a line is at fault: what stands before it can still become a line. A line that is too long goes wrong behind as many
-- bytes as it may have.
abbrev pub IsPlaceIn : List ℕ → ScriptFault → ℕ → Type 0
IsPlaceIn text (ScriptFault.BadLine n) column = IsPlace text column
IsPlaceIn text (ScriptFault.UnknownProcess n) column = IsPlace text column
IsPlaceIn text (ScriptFault.TooLong n) column = IsLimit column
IsPlaceIn text ScriptFault.Reading column = ⊥
IsPlaceIn text ScriptFault.Writing column = ⊥
IsPlaceIn text ScriptFault.NoMemory column = ⊥
IsPlaceIn text ScriptFault.Stranger column = ⊥
IsPlaceIn text ScriptFault.OneOrder column = ⊥
IsPlaceIn text (ScriptFault.Deadlock waiting) column = ⊥

abbrev pub IsPlaceOf : ScriptFault → Excerpt → Type 0
IsPlaceOf fault e = IsPlaceIn e.text fault e.column

-- the line that the fault names
abbrev pub IsNamed : ScriptFault → ℕ → Type 0
IsNamed (ScriptFault.BadLine n) line = line ≡ n
IsNamed (ScriptFault.UnknownProcess n) line = line ≡ n
IsNamed (ScriptFault.TooLong n) line = line ≡ n
IsNamed ScriptFault.Reading line = ⊥
IsNamed ScriptFault.Writing line = ⊥
IsNamed ScriptFault.NoMemory line = ⊥
IsNamed ScriptFault.Stranger line = ⊥
IsNamed ScriptFault.OneOrder line = ⊥
IsNamed (ScriptFault.Deadlock waiting) line = ⊥

-- the number is that of none of these lines, which are counted from 1
abbrev pub IsNoLine : List (List ℕ) → ℕ → Type 0
IsNoLine lines n = (n ≡ 0) ⊎ (length lines < n)

-- the fault names none of these lines
abbrev pub NamesNone : List (List ℕ) → ScriptFault → Type 0
NamesNone lines (ScriptFault.BadLine n) = IsNoLine lines n
NamesNone lines (ScriptFault.UnknownProcess n) = IsNoLine lines n
NamesNone lines (ScriptFault.TooLong n) = IsNoLine lines n
NamesNone lines ScriptFault.Reading = Unit {0}
NamesNone lines ScriptFault.Writing = Unit {0}
NamesNone lines ScriptFault.NoMemory = Unit {0}
NamesNone lines ScriptFault.Stranger = Unit {0}
NamesNone lines ScriptFault.OneOrder = Unit {0}
NamesNone lines (ScriptFault.Deadlock waiting) = Unit {0}

-- the line of this number, counted from 1, as the text has it
abbrev pub IsLineOf : List ℕ → Excerpt → Type 0
IsLineOf text e = e.text ≡ slice_index_or (lines_of text) (e.line - 1) []
