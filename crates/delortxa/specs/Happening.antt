-- What a call of a seat did.
use Rattle.std.specs.Prelude.{◌≡◌, Bool, false, Option, Some, None}
use Rattle.ux_model.specs.Types.{Pid, Request, Reply}
use Rattle.ux_model.specs.State.{State}
use Rattle.ux_book.specs.Pasts.{Caller, made, IsOf}
use Rattle.ux_book.specs.Receipts.{Slip, IsSlip, IsSlipOf}

-- The caller made this call and got this reply: it knows one more call, and some legal history from this state has exactly its calls.
-- The slip is for it; where it could wait, it isn't one that should have waited.
pub record Happens (boot : State) (old new : Caller) (request : Request) (reply : Reply) (waits : Bool) : Type 0 where
  pub past : new ≡ made old request reply
  pub of : IsOf boot new
  pub slip : Slip
  pub shown : IsSlip boot slip
  pub call : IsSlipOf old request reply waits slip

-- The caller made a process, or where it was given none there was no call.
abbrev pub Forks : State → Caller → Caller → Option Pid → Type 0
Forks boot old new (Some pid) = Happens boot old new Request.Fork (Reply.Child pid) false
Forks boot old new None = new ≡ old
