-- A process, and the calls that it has made: its past.
use Rattle.std.specs.Prelude.{◌≡◌, ℕ, zero, suc, ◌==◌, Bool, List, [], ◌∷◌, ◌++◌, Option, Some, None, if◌then◌else◌}
use Rattle.std.specs.List.{list_any}
use Rattle.ux_model.specs.Types.{Pid, Request, Reply, Entry}
use Rattle.ux_model.specs.State.{State}
use Rattle.ux_model.specs.History.{is_exit, IsLegal}
use Rattle.ux_book.specs.declared.call.Call.{Call}

-- an entry, as its process knows it
abbrev pub call_of : Entry → Call
call_of e = record { request = e.request; reply = e.reply }

-- the calls of a process among all entries, in order
abbrev pub calls_by : ℕ → List Entry → List Call
calls_by p [] = []
calls_by p (e ∷ es) = if e.pid.0 == p then call_of e ∷ calls_by p es else calls_by p es

-- one of the calls is the process's exit
abbrev pub has_exit : List Call → Bool
has_exit calls = list_any (λ c. is_exit c.request) calls

-- a process, and the calls that it has made, in order
pub record Caller : Type 0 where
  pub pid : Pid
  pub past : List Call

-- the caller after one more call
abbrev pub made : Caller → Request → Reply → Caller
made c request reply = record c { past = c.past ++ record { request = request; reply = reply } ∷ [] }

-- the processes 1 to n, none of which has made a call
abbrev pub fresh : ℕ → List Caller
fresh zero = []
fresh (suc n) = fresh n ++ record { pid = record { 0 = suc n }; past = [] } ∷ []

-- the process that a call made, which has made no call yet
abbrev pub child_by : Request → Reply → Option Caller
child_by Request.Fork (Reply.Child pid) = Some (record { pid = pid; past = [] })
child_by _ _ = None

-- some legal history from this state has exactly these calls of the process, in this order
pub record IsOf (boot : State) (c : Caller) : Type 0 where
  pub entries : List Entry
  pub legal : IsLegal boot entries
  pub exactly : calls_by c.pid.0 entries ≡ c.past
