-- What reading a script gives, where a part of it was read.
use Rattle.std.specs.Prelude.{◌≡◌, ℕ, List, [], ◌∷◌, ◌++◌, Option, Result, IfSome}
use Rattle.ux_syntax.specs.declared.fault.ScriptFault.{ScriptFault}
use Rattle.ux_syntax.specs.declared.script.Script.{Script}
use Rattle.ux_syntax.specs.Spelling.{Plan, lines_of}
use Rattle.ux_syntax.specs.Reading.{lines_at, script_at}
use Rattle.ux_syntax.specs.Results.{GivesScript}

-- lines of which the first began with this part
abbrev pub onto_front : List ℕ → List (List ℕ) → List (List ℕ)
onto_front part [] = part ∷ []
onto_front part (line ∷ lines) = (part ++ line) ∷ lines

-- after the lines of a script, and a part of the line with this number, come these bytes
abbrev pub continued : Plan → ℕ → List ℕ → List ℕ → Result Plan ScriptFault
continued s n part rest = lines_at n s (onto_front part (lines_of rest))

-- a reader's bytes, where they are known, are a text that gives this
abbrev pub Found : Option (List ℕ) → Result Script ScriptFault → Type 0
Found known result = (text : List ℕ) × IfSome known (λ bytes. bytes ≡ text) × GivesScript result (script_at (lines_of text))
