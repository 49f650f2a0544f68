-- What threads make of a script, of which each makes the lines of one process, in whatever order they get the lock.
use Rattle.std.specs.Prelude.{◌≡◌, ℕ, ◌-◌, nat_lt, nat_le, Bool, true, false, not, ◌==◌, ◌&&◌, ◌||◌, if◌then◌else◌, Option, Some, None}
use Rattle.std.specs.Prelude.{List, [], ◌∷◌, ◌++◌, filter}
use Rattle.std.specs.List.{list_any}
use Rattle.ux_model.specs.Types.{Pid, Request, Reply, Entry}
use Rattle.ux_model.specs.State.{State, is_live}
use Rattle.ux_model.specs.Step.{lacks_memory, fails}
use Rattle.ux_model.specs.Waiting.{should_wait}
use Rattle.ux_model.specs.History.{calls_of, has_live, replay, MayFollow}
use Rattle.ux_book.specs.Books.{KeptHistory, state_of, processes}
use Rattle.ux_syntax.specs.declared.script.Act.{Act}
use Rattle.ux_syntax.specs.Lines.{Line}
use Rattle.ux_syntax.specs.Spelling.{Plan, known_count}
use Rattle.ux_orders.specs.declared.ran.Ran.{Ran}
use Rattle.ux_orders.specs.Lists.{pids_of}
use Rattle.ux_orders.specs.Outcomes.{HasOutcome, IsRun}

-- ---- what a process asks for next

-- a process with this number was made
abbrev pub was_made : KeptHistory → ℕ → Bool
was_made book q = nat_lt 0 q && nat_le q (processes book)

-- a process has come so far as to have made so many calls, or has exited; one that was never made is waited for until process 1 has exited
abbrev pub has_come : KeptHistory → ℕ → ℕ → Bool
has_come book q n =
    if is_live (state_of book) q then nat_le n (calls_of q book.entries)
    else (was_made book q || (not (is_live (state_of book) 1) || (n == 0)))

-- what comes of a process's own line behind so many of its calls: the line itself, what comes where it is passed, or what comes where it is
-- one of those calls
abbrev pub own_line : (ℕ → ℕ → Bool) → ℕ → Line → Option Line → Option Line → Option Line
own_line come k l passed counted = elim l.act [
  | Act.Call request ↦ if k == 0 then Some l else counted
  | Act.Wait q n ↦ if (k == 0) && not (come q.0 n) then Some l else passed
]

-- The line that a process comes to behind so many of its calls: its next call, or before that one in which it waits for a process that
-- hasn't come so far.
abbrev pub next_line : (ℕ → ℕ → Bool) → ℕ → ℕ → List Line → Option Line
next_line come p k [] = None
next_line come p k (l ∷ ls) =
    if l.pid.0 == p then own_line come k l (next_line come p k ls) (next_line come p (k - 1) ls) else next_line come p k ls

-- the call in a line
abbrev pub call_in : Act → Option Request
call_in (Act.Call request) = Some request
call_in (Act.Wait q n) = None

-- The call that a process asks for next: that of its next line, and behind the last its exit. It is none while the process waits in a line,
-- and none where it doesn't live.
abbrev pub asks : KeptHistory → List Line → ℕ → Option Request
asks book lines p =
    if is_live (state_of book) p
    then elim (next_line (has_come book) p (calls_of p book.entries) lines) [ None ↦ Some Request.Exit | Some l ↦ call_in l.act ]
    else None

-- ---- histories that threads make

-- the entry comes next as threads make calls: its process asks for it, and it isn't one that should have waited
pub record Follows (boot : State) (lines : List Line) (before : List Entry) (e : Entry) : Type 0 where
  pub legal : MayFollow boot before e
  pub asked : asks (record { boot = boot; entries = before }) lines e.pid.0 ≡ Some e.request
  pub done : should_wait (replay boot before) e.pid.0 e.request e.reply ≡ false

-- each of these calls came next
pub data Threaded (boot : State) (lines : List Line) : List Entry → Type 0 where
  start : Threaded boot lines []
  further : {calls : List Entry} (e : Entry) → Threaded boot lines calls → Follows boot lines calls e →
      Threaded boot lines (calls ++ e ∷ [])

-- the reply is one that may come in place of another: a lack of memory, or a failure of a file object
abbrev pub is_choice : Reply → Bool
is_choice reply = lacks_memory reply || fails reply

-- so is one of these
abbrev pub has_choice : List Entry → Bool
has_choice entries = list_any (λ e. is_choice e.reply) entries

-- These are all calls that threads make, up to where each process has exited or has to wait, where no memory lacks and no file object
-- fails.
pub record AreAll (boot : State) (lines : List Line) (calls : List Entry) : Type 0 where
  pub threaded : Threaded boot lines calls
  pub sure : has_choice calls ≡ false
  pub last : (e : Entry) → Follows boot lines calls e → is_choice e.reply ≡ true

-- ---- what is known of them

-- the calls of processes; the end of the layer is nobody's
abbrev pub calls_in : List Entry → List Entry
calls_in entries = filter (λ e. not (e.pid.0 == 0)) entries

-- the processes of the run made these calls, and it ended in a deadlock exactly where a process is left
abbrev pub HasCalls : State → List Entry → Ran → Type 0
HasCalls boot calls (Ran.Whole entries) = (calls_in entries.items ≡ calls) × (has_live (replay boot calls) ≡ false)
HasCalls boot calls (Ran.Deadlock entries waits) = (calls_in entries.items ≡ calls) × (has_live (replay boot calls) ≡ true)
HasCalls boot calls (Ran.BrokenOff entries) = ⊥

-- a run of the script has made these calls, and one of these has its outcome, and isn't longer
pub record IsKnown (boot : State) (s : Plan) (outcomes : List Ran) (calls : List Entry) : Type 0 where
  pub ran : Ran
  pub run : IsRun boot s ran
  pub has : HasCalls boot calls ran
  pub known : HasOutcome (known_count s) outcomes ran

-- so it is of all that begin with calls of these processes, in this order
abbrev pub KnowsBehind : State → Plan → List Ran → List Pid → Type 0
KnowsBehind boot s outcomes pids =
    (calls : List Entry) (more : List Pid) → AreAll boot s.lines calls → pids_of calls ≡ pids ++ more → IsKnown boot s outcomes calls

-- so it is of all
abbrev pub KnowsAll : State → Plan → List Ran → Type 0
KnowsAll boot s outcomes = (calls : List Entry) → AreAll boot s.lines calls → IsKnown boot s outcomes calls
