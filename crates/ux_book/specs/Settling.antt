-- What spent shares say of the history.
use Rattle.std.specs.Prelude.{◌≡◌, ℕ, zero, suc, ◌<◌, ◌≤◌, Bool, true, ◌==◌, ◌&&◌, List, length, count_by, Some, if◌then◌else◌}
use Rattle.std.specs.List.{slice_get}
use Rattle.ux_model.specs.Types.{Pid, Request, Reply, Entry}
use Rattle.ux_model.specs.State.{State}
use Rattle.ux_model.specs.History.{replay, IsLegal}
use Rattle.ux_book.specs.declared.call.Call.{Call}
use Rattle.ux_book.specs.Pasts.{Caller, calls_by}
use Rattle.ux_book.specs.Books.{ends_of}
use Rattle.ux_book.specs.Receipts.{Slip}

-- how many of the callers are this process
abbrev pub callers_of : ℕ → List Caller → ℕ
callers_of p cs = count_by (λ c. c.pid.0 == p) cs

-- each of the processes 1 to n is among them once
abbrev pub once_each : ℕ → List Caller → Bool
once_each zero cs = true
once_each (suc n) cs = once_each n cs && (callers_of (suc n) cs == 1)

-- each caller's calls are exactly those of its process among the entries
abbrev pub Exact : List Entry → List Caller → Type 0
Exact entries cs = (i : ℕ) (c : Caller) → slice_get cs i ≡ Some c → calls_by c.pid.0 entries ≡ c.past

-- One legal history from this state has so many entries, of each caller exactly its calls, and the layer's end or not.
-- Each process that was made is once among the callers.
pub record IsSettled (boot : State) (cs : List Caller) (count : ℕ) (ended : Bool) : Type 0 where
  pub entries : List Entry
  pub legal : IsLegal boot entries
  pub exact : Exact entries cs
  pub once : once_each (length (replay boot entries).processes) cs ≡ true
  pub long : length entries ≡ count
  pub ends : ends_of entries ≡ (if ended then 1 else 0)

-- each slip's entry stands at its number
abbrev pub AllStand : List Entry → List Slip → Type 0
AllStand entries slips = (i : ℕ) (s : Slip) → slice_get slips i ≡ Some s → slice_get entries s.number ≡ Some s.entry

-- The same, and each slip's entry stands in that history at its number.
pub record IsSettledWith (boot : State) (cs : List Caller) (slips : List Slip) (count : ℕ) (ended : Bool) : Type 0 where
  pub entries : List Entry
  pub legal : IsLegal boot entries
  pub exact : Exact entries cs
  pub once : once_each (length (replay boot entries).processes) cs ≡ true
  pub long : length entries ≡ count
  pub ends : ends_of entries ≡ (if ended then 1 else 0)
  pub stand : AllStand entries slips

-- Each process of the start is once among the callers, and so is each child that a fork of one of them reports.
pub record IsWhole (boot : State) (cs : List Caller) : Type 0 where
  pub first : (p : ℕ) → 0 < p → p ≤ length boot.processes → callers_of p cs ≡ 1
  pub children : (i k : ℕ) (c : Caller) (call : Call) (pid : Pid) → slice_get cs i ≡ Some c → slice_get c.past k ≡ Some call →
      call.request ≡ Request.Fork → call.reply ≡ Reply.Child pid → callers_of pid.0 cs ≡ 1
