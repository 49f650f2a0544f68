-- Laws of lines with text in them.
use Rattle.std.specs.Prelude.{◌≡◌, ℕ, Bool, true, List, ◌++◌, map, Ok}
use Rattle.std.specs.List.{AllByRecursion}
use Rattle.ux_trace.specs.Trace.{hex}
use Rattle.ux_trace.specs.Echoes.{quoted}
use Rattle.ux_syntax.specs.declared.script.Header.{Header}
use Rattle.ux_syntax.specs.Text.{is_behind_word, hex_word_at, plain_line}
use Rattle.ux_syntax.specs.Spelling.{Turn, header_line, turn_line, serial_lines, off_lines, AreBytes, FitsHeader, FitsTurn}

-- the lines of a script that has no text
abbrev pub script_lines : Bool → List Header → List Turn → Bool → List (List ℕ)
script_lines serial headers turns off = serial_lines serial ++ (map header_line headers ++ (map turn_line turns ++ off_lines off))

-- they are their own plain lines: so what spelled a script before there was text spells it now
abbrev pub PlainLinesStay : Type 0
PlainLinesStay =
    (serial : Bool) (headers : List Header) (turns : List Turn) (off : Bool) →
    AllByRecursion FitsHeader headers → AllByRecursion FitsTurn turns →
    map plain_line (script_lines serial headers turns off) ≡ script_lines serial headers turns off

-- bytes between quotation marks, as an echo has them, stand for the digits of these bytes
abbrev pub EchoesAreRead : Type 0
EchoesAreRead =
    (bytes rest : List ℕ) → AreBytes bytes → is_behind_word rest ≡ true → hex_word_at (quoted bytes ++ rest) ≡ Ok (hex bytes, rest)
