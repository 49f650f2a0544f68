-- A close in some history.
use Rattle.std.proofs.Common.{◌≡◌, true, Bool, ap, ◌∙◌}
use Rattle.std.specs.Prelude.{Result, Ok, Err, IfOk}
use Rattle.ux_model.specs.Types.{Fd, Errno, Request, Reply}
use Rattle.ux_model.specs.State.{State}
use Rattle.ux_model.specs.FreeChoices.{takes_no_memory}
use Rattle.ux_model.proofs.Invariants.FreeChoices.{never_lacks_memory}
use Rattle.ux_book.specs.declared.fault.CallFault.{CallFault}
use Rattle.ux_book.specs.Pasts.{Caller}
use Rattle.ux_book.specs.Receipts.{Slip, IsSlip, IsSlipOf}

-- the reply of a close that stands in some history isn't ENOMEM
close_in_history : (boot : State) (c : Caller) (fd : Fd) (reply : Reply) (tried : Bool) (s : Slip) → IsSlip boot s →
    IsSlipOf c (Request.Close fd) reply tried s →
    ¬ (reply ≡ Reply.Err Errno.ENOMEM)
close_in_history boot c fd reply tried s shown call lacks =
    let may = shown.legal.each s.number s.entry shown.stands in
    never_lacks_memory _ _ s.entry.pid.0 _ s.entry.request s.entry.reply s.entry.released (ap takes_no_memory call.request_is) may.steps
    (call.reply_is ∙ lacks)

-- so of a seat's close
pub close_answer : (boot : State) (c : Caller) (fd : Fd) (tried : Bool) (r : Result (Reply × Slip) CallFault) →
    IfOk r (λ made. IsSlipOf c (Request.Close fd) made.0 tried made.1) → IfOk r (λ made. IsSlip boot made.1) →
    IfOk r (λ made. ¬ (made.0 ≡ Reply.Err Errno.ENOMEM))
close_answer boot c fd tried (Ok made) call shown = close_in_history boot c fd made.0 tried made.1 shown call
close_answer boot c fd tried (Err fault) call shown = tt
