-- Which bytes are a line, whatever stands before it.
use Rattle.std.specs.Prelude.{ℕ, Bool, true, false, List, Result, Ok, Err}
use Rattle.ux_syntax.specs.declared.fault.Fault.{Fault}
use Rattle.ux_syntax.specs.declared.reading.Parsed.{Parsed}
use Rattle.ux_syntax.specs.Reading.{item_at}

-- something was read
abbrev pub is_read : Result Parsed Fault → Bool
is_read (Ok item) = true
is_read (Err fault) = false

-- a line that a script may have somewhere, of at most so many bytes
unfoldable pub is_line : ℕ → List ℕ → Bool
is_line limit text = is_read (item_at limit text)
