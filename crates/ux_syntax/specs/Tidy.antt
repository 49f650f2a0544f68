-- Lines as people type them, and the lines that they stand for: words stand one blank apart, with none before and behind them, and a comment
-- behind them is left out. Text between quotation marks stays as it is.
use Rattle.std.specs.Prelude.{ℕ, Bool, true, false, not, List, [], ◌∷◌, ◌++◌, Option, Some, None, ◌==◌, ◌&&◌, ◌||◌, if◌then◌else◌}
use Rattle.std.specs.List.{flat_map}
use Rattle.std.specs.Option.{is_some}
use Rattle.ux_syntax.specs.declared.tidy.Position.{Position}
use Rattle.ux_syntax.specs.Spelling.{lines_of}

-- a blank or a tab
abbrev pub is_space : ℕ → Bool
is_space c = c == 32 || c == 9

-- ---- comments that say what a call answers

-- behind blanks and tabs
abbrev pub past_blanks : List ℕ → List ℕ
past_blanks [] = []
past_blanks (c ∷ cs) = if is_space c then past_blanks cs else c ∷ cs

abbrev pub begins_with_equals : List ℕ → Bool
begins_with_equals [] = false
begins_with_equals (c ∷ cs) = c == 61

-- what stands behind =, where no further = follows, as in a row of them
abbrev pub behind_equals : List ℕ → Option (List ℕ)
behind_equals [] = None
behind_equals (c ∷ cs) = if c == 61 && not (begins_with_equals cs) then Some (past_blanks cs) else None

abbrev pub behind_hash : List ℕ → Option (List ℕ)
behind_hash [] = None
behind_hash (c ∷ cs) = if c == 35 then behind_equals (past_blanks cs) else None

-- what stands behind # and =, with blanks before, between and behind them or without
abbrev pub marked : List ℕ → Option (List ℕ)
marked text = behind_hash (past_blanks text)

-- ---- words one blank apart

-- where the byte behind one outside of text stands, with this gap behind a word
abbrev pub outside : Position → ℕ → Position
outside gap c = if is_space c then gap else if c == 34 then Position.Text else Position.Word

abbrev pub next_position : Position → ℕ → Position
next_position Position.Front c = outside Position.Front c
next_position Position.Gap c = outside Position.Gap c
next_position Position.Word c = outside Position.Gap c
next_position Position.Text c = if c == 92 then Position.Escape else if c == 34 then Position.Word else Position.Text
next_position Position.Escape c = Position.Text

-- the bytes that one stands for: blanks and tabs for none, and the first of a further word for a blank, too
abbrev pub laid : Position → ℕ → List ℕ
laid Position.Front c = if is_space c then [] else c ∷ []
laid Position.Gap c = if is_space c then [] else 32 ∷ c ∷ []
laid Position.Word c = if is_space c then [] else c ∷ []
laid Position.Text c = c ∷ []
laid Position.Escape c = c ∷ []

-- a comment begins here, behind a word
abbrev pub begins_comment : Position → ℕ → Bool
begins_comment Position.Gap c = c == 35
begins_comment other c = false

-- what is left of it: one that says what a call answers stays, and is no word that may stand there
abbrev pub comment_left : List ℕ → List ℕ
comment_left comment = if is_some (marked comment) then 32 ∷ comment else []

-- what is left of the rest of a line
abbrev pub tidy_from : Position → List ℕ → List ℕ
tidy_from position [] = []
tidy_from position (c ∷ cs) =
    if begins_comment position c then comment_left (c ∷ cs) else laid position c ++ tidy_from (next_position position c) cs

abbrev pub tidy_line : List ℕ → List ℕ
tidy_line text = tidy_from Position.Front text

-- ---- a whole text

abbrev pub feed : List ℕ → List ℕ
feed line = 10 ∷ line

-- with a line feed between each two
abbrev pub tidied : List (List ℕ) → List ℕ
tidied [] = []
tidied (line ∷ lines) = tidy_line line ++ flat_map (λ l. feed (tidy_line l)) lines

abbrev pub tidy_text : List ℕ → List ℕ
tidy_text text = tidied (lines_of text)
