-- Each call that was made has a reply of its request's kind: the law of the facade's calls.
use Rattle.std.specs.Prelude.{◌≡◌, Bool, true, length}
use Rattle.std.proofs.Common.{subst}
use Rattle.ux_model.specs.Types.{Pid, Request, Reply}
use Rattle.ux_model.specs.State.{State}
use Rattle.ux_book.specs.Books.{KeptHistory}
use Rattle.ux_book.specs.Pasts.{Caller}
use Rattle.ux_book.specs.Sitting.{Answers}
use Rattle.ux_model.specs.ReplyKinds.{is_reply_to}
use Rattle.ux_model.proofs.Sizes.ReplyKinds.{replies_are_of_their_kind}
use Rattle.delortxa.specs.Happening.{Happens}

-- of a session
pub reply_answers : (old new : KeptHistory) (pid : Pid) (request : Request) (reply : Reply) → Answers old new pid request reply →
    is_reply_to request reply ≡ true
reply_answers old new pid request reply a =
    replies_are_of_their_kind _ _ pid.0 (length old.entries) request reply _ a.adds.next.steps

-- of a seat
pub reply_happens : (boot : State) (old new : Caller) (request : Request) (reply : Reply) (waits : Bool) →
    Happens boot old new request reply waits → is_reply_to request reply ≡ true
reply_happens boot old new request reply waits h =
    subst (λ (r : Request). is_reply_to r reply ≡ true) h.call.request_is
    (subst (λ (r : Reply). is_reply_to h.slip.entry.request r ≡ true) h.call.reply_is
    (replies_are_of_their_kind _ _ _ _ h.slip.entry.request h.slip.entry.reply _
    (h.shown.legal.each h.slip.number h.slip.entry h.shown.stands).steps))
