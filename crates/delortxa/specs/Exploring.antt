-- What processes do, given as lists.
use Rattle.std.specs.Prelude.{ℕ, false, List, [], ◌∷◌, ◌++◌}
use Rattle.ux_model.specs.Types.{Pid, ProcSpec, Request}
use Rattle.ux_syntax.specs.declared.script.Act.{Act}
use Rattle.ux_syntax.specs.Lines.{Line}
use Rattle.ux_syntax.specs.Spelling.{Plan}

-- with one more thing that this process does
abbrev pub with_line : List Line → Pid → Act → List Line
with_line programs pid act = programs ++ record { pid = pid; act = act } ∷ []

-- with one more call of this process
abbrev pub with_call : List Line → Pid → Request → List Line
with_call programs pid request = with_line programs pid (Act.Call request)

-- with this process waiting until another has made so many calls
abbrev pub with_wait : List Line → Pid → Pid → ℕ → List Line
with_wait programs pid other calls = with_line programs pid (Act.Wait other calls)

-- These processes do so. What file objects there are is left open, and the layer isn't ended.
abbrev pub script_of : List ProcSpec → List Line → Plan
script_of procs programs = record { serial = false; objects = []; procs = procs; lines = programs; off = false }
