-- The lines that a session takes: those of its input that aren't at fault.
use Rattle.std.specs.Prelude.{◌≡◌, ℕ, suc, ◌+◌, Bool, true, false, List, [], ◌∷◌, Option, Some, IfSome, option_map, Result, Ok, Err}
use Rattle.std.specs.Io.BufRead.{first_piece, drop_through}
use Rattle.ux_syntax.specs.declared.fault.ScriptFault.{ScriptFault}
use Rattle.ux_syntax.specs.Spelling.{Plan, lines_of}
use Rattle.ux_syntax.specs.Reading.{lines_at}
use Rattle.ux_syntax.specs.Tidy.{tidy_line}

-- what was read of an input: the number of the last line, and the bytes that are left, where they are known
pub record Unread : Type 0 where
  pub number : ℕ
  pub bytes : Option (List ℕ)

-- what reading gives, or the plan as it was where a line is at fault
abbrev pub read_or : Plan → Result Plan ScriptFault → Plan
read_or s (Ok t) = t
read_or s (Err f) = s

-- the plan with the line of this number, as people type it, which is left out where it is at fault
abbrev pub heard_line : ℕ → Plan → List ℕ → Plan
heard_line n s text = read_or s (lines_at n s (tidy_line text ∷ []))

-- the plan with these lines, but those at fault, where the first of them has this number
abbrev pub heard : ℕ → Plan → List (List ℕ) → Plan
heard n s [] = s
heard n s (text ∷ texts) = heard (suc n) (heard_line n s text) texts

-- the plan with the lines that are left, where their bytes are known; an empty piece behind the last line feed says nothing
abbrev pub heard_rest : Unread → Plan → Option Plan
heard_rest input s = option_map (λ bytes. heard (input.number + 1) s (lines_of bytes)) input.bytes

-- the next line was read, without its line feed, or there was none
abbrev pub IsNextLine : Bool → Unread → Unread → List ℕ → Type 0
IsNextLine true old new text = (new.number ≡ old.number + 1)
    × IfSome old.bytes (λ bytes. (text ≡ first_piece 10 bytes) × (new.bytes ≡ Some (drop_through 10 bytes)))
IsNextLine false old new text = (new.number ≡ old.number) × IfSome old.bytes (λ bytes. (bytes ≡ []) × (new.bytes ≡ Some []))

-- where the input is known: what its rest makes of the second plan is what all of it made of the first
abbrev pub HearsOn : Unread → Plan → Unread → Plan → Type 0
HearsOn old s new t = IfSome (heard_rest old s) (λ whole. heard_rest new t ≡ Some whole)

-- where the input is known: nothing is left of it, and the second plan is what all of it made of the first
abbrev pub HearsAll : Unread → Plan → Unread → Plan → Type 0
HearsAll old s new t = IfSome (heard_rest old s) (λ whole. (t ≡ whole) × (new.bytes ≡ Some []))
