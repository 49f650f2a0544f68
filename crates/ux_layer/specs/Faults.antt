-- Why a seat's call was no entry.
use Rattle.std.specs.Prelude.{◌≡◌, ◌⊎◌, ℕ, List, length}
use Rattle.ux_model.specs.Types.{Request, Entry}
use Rattle.ux_model.specs.State.{State}
use Rattle.ux_model.specs.History.{IsLegal}
use Rattle.ux_book.specs.declared.fault.CallFault.{CallFault}
use Rattle.ux_book.specs.Books.{MustWait}
use Rattle.ux_book.specs.Pasts.{Caller, calls_by}

-- Some legal history from this state has exactly these calls of the process, and the book's keeper can't keep an entry after it.
pub record CannotKeep (boot : State) (c : Caller) (cannot_keep : ℕ → CallFault → Type 0) (fault : CallFault) : Type 0 where
  pub entries : List Entry
  pub legal : IsLegal boot entries
  pub exactly : calls_by c.pid.0 entries ≡ c.past
  pub cannot : cannot_keep (length entries) fault

-- Some legal history from this state has exactly these calls of the process, which has to wait with this one after it.
pub record HasToWait (boot : State) (c : Caller) (request : Request) : Type 0 where
  pub entries : List Entry
  pub legal : IsLegal boot entries
  pub exactly : calls_by c.pid.0 entries ≡ c.past
  pub waits : MustWait (record { boot = boot; entries = entries }) c.pid request

-- the call has to wait, as each other process's has, or the book's keeper can't keep it
abbrev pub WaitsOrCannotKeep : State → Caller → Request → (ℕ → CallFault → Type 0) → CallFault → Type 0
WaitsOrCannotKeep boot c request cannot_keep fault =
    ((fault ≡ CallFault.Deadlock) × HasToWait boot c request) ⊎ CannotKeep boot c cannot_keep fault
