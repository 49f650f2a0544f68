-- Which histories are runs of a script.
use Rattle.std.specs.Prelude.{◌≡◌, ◌⊎◌, ◌+◌, ◌++◌, ℕ, not, List, length, map, filter, Option}
use Rattle.std.specs.List.{range_with_len}
use Rattle.std.specs.Io.KnownBytes.{Keeps}
use Rattle.ux_model.specs.Types.{Entry}
use Rattle.ux_model.specs.State.{State}
use Rattle.ux_model.specs.Boot.{new_process}
use Rattle.ux_book.specs.Books as books
use Rattle.ux_book.specs.Books.{KeptHistory}
use Rattle.ux_model.specs.History.{IsLegal}
use Rattle.ux_syntax.specs.declared.fault.ScriptFault.{ScriptFault}
use Rattle.ux_syntax.specs.declared.script.Act.{Act}
use Rattle.ux_syntax.specs.Lines.{Line}
use Rattle.ux_syntax.specs.Spelling.{Plan, forks_of}
use Rattle.ux_syntax.specs.Turns.{has_exited, exit_line, all_turns}
use Rattle.ux_trace.specs.Trace.{trace}
use Rattle.ux_script.specs.Writes.{AppendsBeginning}

-- the line of a script that asks for an entry's call
abbrev pub line_of_entry : Entry → Line
line_of_entry e = record { pid = e.pid; act = Act.Call e.request }

-- nothing was written, or a beginning of the trace of a legal history from this state,
-- which makes the script's calls in order, then the missing exits, and the end of the layer where the script has it
abbrev pub WritesBeginning : State → Plan → Option (List ℕ) → Option (List ℕ) → Type 0
WritesBeginning boot s old new = Keeps old new
    ⊎ ((history : List Entry) × IsLegal boot history × (map line_of_entry history ≡ all_turns s) × AppendsBeginning old new (trace history))

-- the faults of a run: reading is over
abbrev pub IsRunFault : ScriptFault → Type 0
IsRunFault f = (f ≡ ScriptFault.Writing) ⊎ (f ≡ ScriptFault.NoMemory) ⊎ (f ≡ ScriptFault.Stranger)

-- the exits of the first n processes that don't make their own
abbrev pub exits_of : List Line → ℕ → List Line
exits_of lines n = map exit_line (filter (λ pid. not (has_exited lines pid)) (range_with_len 1 n))

-- what a book of the script's processes has made: these lines, and each fork among them made a process
pub record Makes (book : KeptHistory) (s : Plan) (lines : List Line) : Type 0 where
  pub processes : book.boot.processes ≡ map new_process s.procs
  pub legal : IsLegal book.boot book.entries
  pub calls : map line_of_entry book.entries ≡ lines
  pub made : books.processes book ≡ length s.procs + forks_of lines

-- these entries came to be more, or stayed
abbrev pub Grows : List Entry → List Entry → Type 0
Grows old new = (more : List Entry) × (new ≡ old ++ more)
