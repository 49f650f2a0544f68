-- What a run of a script by threads may have written where it failed.
use Rattle.std.specs.Prelude.{◌⊎◌, ℕ, Bool, true, false, List, Option}
use Rattle.std.specs.Io.KnownBytes.{Keeps}
use Rattle.ux_model.specs.Types.{Entry}
use Rattle.ux_model.specs.State.{State}
use Rattle.ux_syntax.specs.Spelling.{Plan}
use Rattle.ux_trace.specs.Trace.{trace}
use Rattle.ux_script.specs.Writes.{AppendsBeginning}
use Rattle.ux_syntax.specs.declared.fault.ScriptFault.{ScriptFault}
use Rattle.ux_replay.specs.Runs.{Runs, HasBegun}
use Rattle.ux_threads.specs.declared.run.ThreadedRun.{ThreadedRun}

-- nothing was written, or a beginning of the trace of a history that is such a run
abbrev pub WritesBeginning : State → Plan → Option (List ℕ) → Option (List ℕ) → Type 0
WritesBeginning boot s old new = Keeps old new ⊎ ((entries : List Entry) × Runs boot s entries × AppendsBeginning old new (trace entries))

-- a beginning of the trace of a history that has begun as such a run
abbrev pub WritesBegun : State → Plan → Option (List ℕ) → Option (List ℕ) → Type 0
WritesBegun boot s old new = (entries : List Entry) × HasBegun boot s entries × AppendsBeginning old new (trace entries)

-- every process waits
abbrev pub is_deadlock : ScriptFault → Bool
is_deadlock (ScriptFault.Deadlock waiting) = true
is_deadlock f = false

-- the history of the whole script, or of its beginning
abbrev pub IsOfScript : State → Plan → ThreadedRun → Type 0
IsOfScript boot s (ThreadedRun.Whole entries) = Runs boot s entries.items
IsOfScript boot s (ThreadedRun.Begun entries waiting) = HasBegun boot s entries.items
