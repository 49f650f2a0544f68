-- A script that is run as it comes.
use Rattle.std.specs.Prelude.{◌≡◌, ◌⊎◌, ℕ, List, take, Option}
use Rattle.std.specs.Io.KnownBytes.{Appends, Keeps}
use Rattle.ux_model.specs.Types.{Entry}
use Rattle.ux_model.specs.State.{State}
use Rattle.ux_model.specs.History.{IsLegal}
use Rattle.ux_book.specs.Books.{KeptHistory}
use Rattle.ux_syntax.specs.declared.fault.ScriptFault.{ScriptFault}
use Rattle.ux_syntax.specs.Spelling.{Plan}
use Rattle.ux_syntax.specs.Turns.{call_lines}
use Rattle.ux_trace.specs.Trace.{trace}
use Rattle.ux_script.specs.Runs.{Makes, IsRunFault}
use Rattle.ux_script.specs.Writes.{AppendsBeginning}

-- a book of the script's processes made the calls of its first lines, of so many
abbrev pub Follows : KeptHistory → Plan → ℕ → Type 0
Follows book s count = Makes book s (call_lines (take count s.lines))

-- where the trace of the first entries was written before, that of the others is written now
abbrev pub Prints : Option (List ℕ) → Option (List ℕ) → List Entry → List Entry → Type 0
Prints old new before after = (start : Option (List ℕ)) → Appends start old (trace before) → Appends start new (trace after)

-- where the trace of the first entries was written before, a beginning of that of these others is written now
abbrev pub PrintsBeginning : Option (List ℕ) → Option (List ℕ) → List Entry → List Entry → Type 0
PrintsBeginning old new before after =
    (start : Option (List ℕ)) → Appends start old (trace before) → AppendsBeginning start new (trace after)

-- the same of a legal history from this state
abbrev pub Breaks : State → Option (List ℕ) → Option (List ℕ) → List Entry → Type 0
Breaks boot old new before = (after : List Entry) × IsLegal boot after × PrintsBeginning old new before after

-- nothing was written, or a beginning of the trace of a legal history from this state
abbrev pub WritesFront : State → Option (List ℕ) → Option (List ℕ) → Type 0
WritesFront boot old new = Keeps old new ⊎ ((history : List Entry) × IsLegal boot history × AppendsBeginning old new (trace history))

-- the faults of a run whose lines are read meanwhile
abbrev pub IsFollowFault : ScriptFault → Type 0
IsFollowFault f = (f ≡ ScriptFault.Reading) ⊎ IsRunFault f
