-- Lines with text in them: which plain line each stands for. Wherever HEX may stand, bytes may be written as text between quotation marks,
-- and for the SPACE of a receive `rights:N`. A word that isn't well written so stays as it is, and is then no word that may stand there.
use Rattle.std.specs.Prelude.{ℕ, zero, suc, ◌+◌, ◌*◌, Bool, true, false, List, [], ◌∷◌, ◌++◌, length, take, drop, codes, decimal, Option}
use Rattle.std.specs.Prelude.{Some, None, Result, Ok, Err, nat_le, ◌==◌, ◌&&◌, if◌then◌else◌}
use Rattle.std.specs.List.{list_any, position_or_len}
use Rattle.std.specs.Str.{bytes_eq}
use Rattle.ux_model.specs.Limits.{rights_limit}
use Rattle.ux_calls.specs.Calls.{rights_space}
use Rattle.ux_trace.specs.Trace.{hex}
use Rattle.ux_syntax.specs.declared.fault.Fault.{Fault}
use Rattle.ux_syntax.specs.declared.fault.Fault.TheVariants.{BadLine}
use Rattle.ux_syntax.specs.declared.plain.Field.{Field}
use Rattle.ux_syntax.specs.Digits.{◌>>=◌, number_at, digit_at}

-- ---- text

-- the byte that a character behind a backslash stands for, as in C: \a \b \t \n \v \f \r \" \\
abbrev pub escape_at : ℕ → Result ℕ Fault
escape_at c =
    if c == 97 then Ok 7 else if c == 98 then Ok 8 else if c == 116 then Ok 9 else if c == 110 then Ok 10 else if c == 118 then Ok 11
    else if c == 102 then Ok 12 else if c == 114 then Ok 13 else if c == 34 then Ok 34 else if c == 92 then Ok 92 else Err BadLine

-- the byte of two digits, and what follows them
abbrev pub pair_at : List ℕ → Result (ℕ × List ℕ) Fault
pair_at [] = Err BadLine
pair_at (h ∷ []) = Err BadLine
pair_at (h ∷ l ∷ rest) = do
  high ← digit_at h
  low ← digit_at l
  Ok (16 * high + low, rest)

-- what stands behind a backslash: x and two digits, or one of those characters
abbrev pub escaped_byte_at : List ℕ → Result (ℕ × List ℕ) Fault
escaped_byte_at [] = Err BadLine
escaped_byte_at (c ∷ cs) = if c == 120 then pair_at cs else (escape_at c >>= λ b. Ok (b, cs))

-- the first byte of a text, and what follows its spelling: each byte stands for itself but the backslash
abbrev pub text_byte_at : List ℕ → Result (ℕ × List ℕ) Fault
text_byte_at [] = Err BadLine
text_byte_at (c ∷ cs) = if c == 92 then escaped_byte_at cs else Ok (c, cs)

-- the bytes of a text up to its closing quotation mark, so many at most, and what follows the mark
abbrev pub text_upto : ℕ → List ℕ → Result (List ℕ × List ℕ) Fault
text_upto zero cs = Err BadLine
text_upto (suc n) [] = Err BadLine
text_upto (suc n) (c ∷ cs) =
    if c == 34 then Ok ([], cs) else (text_byte_at (c ∷ cs) >>= λ x. text_upto n x.1 >>= λ y. Ok (x.0 ∷ y.0, y.1))

unfoldable pub text_at : List ℕ → Result (List ℕ × List ℕ) Fault
text_at cs = text_upto (length cs) cs

-- ---- words

-- a line ends, or a blank stands there
abbrev pub is_behind_word : List ℕ → Bool
is_behind_word [] = true
is_behind_word (c ∷ cs) = c == 32

-- the plain word of a text, and what follows it
unfoldable pub hex_word_at : List ℕ → Result (List ℕ × List ℕ) Fault
hex_word_at [] = Err BadLine
hex_word_at (c ∷ cs) = if c == 34 then (text_at cs >>= λ x. if is_behind_word x.1 then Ok (hex x.0, x.1) else Err BadLine) else Err BadLine

-- the same behind x:
abbrev pub raw_word_at : List ℕ → Result (List ℕ × List ℕ) Fault
raw_word_at [] = Err BadLine
raw_word_at (c ∷ []) = Err BadLine
raw_word_at (c ∷ colon ∷ cs) = if c == 120 && colon == 58 then (hex_word_at cs >>= λ x. Ok (120 ∷ 58 ∷ x.0, x.1)) else Err BadLine

-- up to the first blank, and what follows
abbrev pub first_word : List ℕ → List ℕ × List ℕ
first_word cs = let n = position_or_len (λ b. b == 32) cs in (take n cs, drop n cs)

-- how many bytes of control so many rights take that one message may pass
abbrev pub space_of : ℕ → Result (List ℕ) Fault
space_of n = if nat_le n rights_limit then Ok (decimal (rights_space n)) else Err BadLine

-- the same of the number behind `rights:`
unfoldable pub space_at : List ℕ → Result (List ℕ) Fault
space_at w = if bytes_eq (take 7 w) (codes "rights:") then (number_at (drop 7 w) >>= λ n. space_of n) else Err BadLine

abbrev pub space_word_at : List ℕ → Result (List ℕ × List ℕ) Fault
space_word_at cs = let word = first_word cs in space_at word.0 >>= λ digits. Ok (digits, word.1)

-- the plain word of a field that is written otherwise
abbrev pub special_word_at : Field → List ℕ → Result (List ℕ × List ℕ) Fault
special_word_at Field.Plain cs = Err BadLine
special_word_at Field.Hex cs = hex_word_at cs
special_word_at Field.Raw cs = raw_word_at cs
special_word_at Field.Space cs = space_word_at cs

abbrev pub or_as_written : List ℕ → Result (List ℕ × List ℕ) Fault → List ℕ × List ℕ
or_as_written cs (Ok x) = x
or_as_written cs (Err f) = first_word cs

-- the plain word of a field with the blank behind it, and what follows
abbrev pub field_at : Field → List ℕ → List ℕ × List ℕ
field_at field cs = let x = or_as_written cs (special_word_at field cs) in (x.0 ++ take 1 x.1, drop 1 x.1)

-- ---- lines

-- the plain line of one whose first words are these fields
abbrev pub plain_fields : List Field → List ℕ → List ℕ
plain_fields [] cs = cs
plain_fields (field ∷ fields) cs = let x = field_at field cs in x.0 ++ plain_fields fields x.1

-- so many plain words before these fields
abbrev pub behind : ℕ → List Field → List Field
behind zero fields = fields
behind (suc n) fields = Field.Plain ∷ behind n fields

-- the fields of an object's line, by the word behind its name
abbrev pub object_fields : List ℕ → List Field
object_fields w =
    if bytes_eq w (codes "mem") then behind 3 (Field.Hex ∷ [])
    else if bytes_eq w (codes "fail") then behind 5 (Field.Hex ∷ [])
    else []

-- those of an expectation, by its reply's word
abbrev pub reply_fields : List ℕ → List Field
reply_fields w =
    if bytes_eq w (codes "bytes") then behind 2 (Field.Hex ∷ [])
    else if bytes_eq w (codes "got") then behind 3 (Field.Hex ∷ Field.Plain ∷ Field.Raw ∷ [])
    else []

-- those of a process's line, by its call's word
abbrev pub call_fields : List ℕ → List Field
call_fields w =
    if bytes_eq w (codes "write") then behind 3 (Field.Hex ∷ [])
    else if bytes_eq w (codes "send") then behind 4 (Field.Hex ∷ Field.Raw ∷ [])
    else if bytes_eq w (codes "recv") then behind 4 (Field.Space ∷ [])
    else []

-- the first words of a line, up to the one of which the bytes may be text: none where it has none, by its first three words
abbrev pub fields_by : List ℕ → List ℕ → List ℕ → List Field
fields_by first second third =
    if bytes_eq first (codes "object") then object_fields third
    else if bytes_eq first (codes "#=") then reply_fields second
    else call_fields second

unfoldable pub fields_of : List ℕ → List Field
fields_of cs =
    let first = first_word cs in
    let second = first_word (drop 1 first.1) in
    let third = first_word (drop 1 second.1) in
    fields_by first.0 second.0 third.0

-- a line itself, where no other stands for it
abbrev pub line_or : List ℕ → Option (List ℕ) → List ℕ
line_or cs None = cs
line_or cs (Some plain) = plain

-- whether a line has a byte without which the field is a plain word: a quotation mark, or a colon
abbrev pub may_be_special : Field → List ℕ → Bool
may_be_special Field.Plain cs = false
may_be_special Field.Hex cs = list_any (λ b. b == 34) cs
may_be_special Field.Raw cs = list_any (λ b. b == 34) cs
may_be_special Field.Space cs = list_any (λ b. b == 58) cs

-- the plain line that a line stands for
unfoldable pub plain_line : List ℕ → List ℕ
plain_line cs = plain_fields (fields_of cs) cs
