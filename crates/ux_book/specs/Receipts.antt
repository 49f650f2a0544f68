-- What a receipt says.
use Rattle.std.specs.Prelude.{◌≡◌, ℕ, Bool, true, false, List, length, take, Some}
use Rattle.std.specs.List.{slice_get}
use Rattle.ux_model.specs.Types.{Request, Reply, Entry}
use Rattle.ux_model.specs.State.{State}
use Rattle.ux_model.specs.Waiting.{should_wait}
use Rattle.ux_model.specs.History.{replay, IsLegal}
use Rattle.ux_book.specs.Pasts.{Caller}
use Rattle.ux_book.specs.Books.{KeptHistory, call_by}

-- the number of an entry, the entry, and whether a call that could wait gave it
pub record Slip : Type 0 where
  pub number : ℕ
  pub entry : Entry
  pub tried : Bool

-- the receipt for the next entry of a book
abbrev pub next_slip : KeptHistory → Caller → Request → Reply → Bool → List ℕ → Slip
next_slip book c request reply tried released =
    record { number = length book.entries; entry = call_by book c request reply released; tried = tried }

-- Some legal history from this state has the entry at its number; where it was tried, it isn't one that should have waited.
pub record IsSlip (boot : State) (s : Slip) : Type 0 where
  pub entries : List Entry
  pub legal : IsLegal boot entries
  pub stands : slice_get entries s.number ≡ Some s.entry
  pub done : s.tried ≡ true → should_wait (replay boot (take s.number entries)) s.entry.pid.0 s.entry.request s.entry.reply ≡ false

-- the slip is for this call of the caller
pub record IsSlipOf (c : Caller) (request : Request) (reply : Reply) (tried : Bool) (s : Slip) : Type 0 where
  pub whose : s.entry.pid ≡ c.pid
  pub count : s.entry.k ≡ length c.past
  pub request_is : s.entry.request ≡ request
  pub reply_is : s.entry.reply ≡ reply
  pub tried_is : s.tried ≡ tried
