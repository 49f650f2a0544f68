-- What a function returned, beside what reading gives.
use Rattle.std.specs.Prelude.{◌≡◌, ℕ, suc, Bool, false, List, length, Result, Ok, Err, slice_index_or}
use Rattle.ux_syntax.specs.declared.fault.Fault.{Fault}
use Rattle.ux_syntax.specs.declared.fault.LineError.{LineError}
use Rattle.ux_syntax.specs.declared.fault.ScriptFault.{ScriptFault}
use Rattle.ux_syntax.specs.declared.script.Script.{Script}
use Rattle.ux_syntax.specs.Spelling.{Plan, plan_of, known_count, IsFirstFault}
use Rattle.ux_syntax.specs.Turns.{has_exited}
use Rattle.ux_syntax.specs.Reading.{line_fault}

abbrev pub fault_at : ℕ → LineError → ScriptFault
fault_at n LineError.Memory = ScriptFault.NoMemory
fault_at n (LineError.Fault f) = line_fault n f

-- The result, seen by view, is what reading gives, unless memory ran out.
abbrev pub Fails : {Y : Type 0} → LineError → Result Y Fault → Type 0
Fails LineError.Memory read = Unit {0}
Fails (LineError.Fault f) read = read ≡ Err f

abbrev pub IsAsRead : {X Y : Type 0} → (X → Y) → Result X LineError → Result Y Fault → Type 0
IsAsRead view (Ok x) read = read ≡ Ok (view x)
IsAsRead view (Err e) read = Fails e read

-- what stands there after an Ok is what reading gives
abbrev pub Leaves : Plan → Result (Unit {0}) LineError → Result Plan Fault → Type 0
Leaves new (Ok x) read = read ≡ Ok new
Leaves new (Err e) read = Fails e read

-- a fault of the script is the one that reading gives; a lack of memory says nothing of the script
abbrev pub FailsAt : ScriptFault → Result Plan ScriptFault → Type 0
FailsAt (ScriptFault.BadLine n) read = read ≡ Err (ScriptFault.BadLine n)
FailsAt (ScriptFault.UnknownProcess n) read = read ≡ Err (ScriptFault.UnknownProcess n)
FailsAt (ScriptFault.TooLong n) read = read ≡ Err (ScriptFault.TooLong n)
FailsAt ScriptFault.Reading read = ⊥
FailsAt ScriptFault.Writing read = ⊥
FailsAt ScriptFault.NoMemory read = Unit {0}
FailsAt ScriptFault.Stranger read = ⊥
FailsAt ScriptFault.OneOrder read = ⊥
FailsAt (ScriptFault.Deadlock waiting) read = ⊥

abbrev pub GivesScript : Result Script ScriptFault → Result Plan ScriptFault → Type 0
GivesScript (Ok s) read = read ≡ Ok (plan_of s)
GivesScript (Err f) read = FailsAt f read

-- what was read so far and one line more is what reading gives, or the line's fault is, unless memory ran out
abbrev pub ReadsOn : Result (Unit {0}) ScriptFault → Plan → Result Plan ScriptFault → Type 0
ReadsOn (Ok x) new read = read ≡ Ok new
ReadsOn (Err f) new read = FailsAt f read

-- a fault names the first line at fault and says why, unless memory ran out
abbrev pub HasFault : List (List ℕ) → ScriptFault → Type 0
HasFault texts (ScriptFault.BadLine n) = IsFirstFault texts n Fault.BadLine
HasFault texts (ScriptFault.UnknownProcess n) = IsFirstFault texts n Fault.UnknownProcess
HasFault texts (ScriptFault.TooLong n) = IsFirstFault texts n Fault.TooLong
HasFault texts ScriptFault.Reading = ⊥
HasFault texts ScriptFault.Writing = ⊥
HasFault texts ScriptFault.NoMemory = Unit {0}
HasFault texts ScriptFault.Stranger = ⊥
HasFault texts ScriptFault.OneOrder = ⊥
HasFault texts (ScriptFault.Deadlock waiting) = ⊥

-- one flag for each process that is known so far, which says whether the process has made its exit; no other process has
pub record KnowsExits (s : Plan) (exited : List Bool) : Type 0 where
  pub long : length exited ≡ known_count s
  pub each : (i : ℕ) → slice_index_or exited i false ≡ has_exited s.lines (suc i)
