-- What the clauses of a seat say of a call.
use Rattle.std.proofs.Common.{◌≡◌, [], Bool, ap, sym, subst}
use Rattle.std.specs.Prelude.{Some, None, Result, Ok, Err, IfErr, refl}
use Rattle.ux_model.specs.Types.{Request, Reply}
use Rattle.ux_model.specs.State.{State}
use Rattle.ux_book.specs.Pasts.{Caller, child_by, made, IsOf}
use Rattle.ux_book.specs.Receipts.{Slip, IsSlip, IsSlipOf}
use Rattle.ux_model.specs.ReplyKinds.{is_child}
use Rattle.delortxa.specs.Answering.{IsOther, other_error}
use Rattle.delortxa.specs.Happening.{Happens}

-- a call that a seat made
pub happens : (boot : State) (old new : Caller) (request : Request) (reply : Reply) (waits : Bool) (slip : Slip) →
    new ≡ made old request reply → IsOf boot new → IsSlip boot slip → IsSlipOf old request reply waits slip →
    Happens boot old new request reply waits
happens boot old new request reply waits slip past of shown call = record { past = past; of = of; slip = slip; shown = shown; call = call }

-- a fork that made a process
pub child_is : (reply : Reply) (child : Caller) → Some child ≡ child_by Request.Fork reply →
    (reply ≡ Reply.Child child.pid) × (child.past ≡ [])
child_is (Reply.Child pid) child h = let is : child ≡ record { pid = pid; past = [] } = cc h in
    (ap (λ (c : Caller). Reply.Child c.pid) (sym is), ap (λ (c : Caller). c.past) is)
child_is _ child h = absurd (cc h)

-- a fork that made none
pub no_child : (reply : Reply) → None ≡ child_by Request.Fork reply → IsOther is_child reply (other_error reply)
no_child (Reply.Child pid) h = absurd (cc h)
no_child (Reply.Err errno) h = refl
no_child _ h = (refl, refl)

-- a clause of errors, where there is none
pub answered : {A E : Type 0} (r : Result A E) (P : E → Type 0) (a : A) → r ≡ Ok a → IfErr r P
answered r P a is = subst (λ x. IfErr x P) (sym is) tt

-- and where there is one
pub erred : {A E : Type 0} (r : Result A E) (P : E → Type 0) (e : E) → r ≡ Err e → P e → IfErr r P
erred r P e is holds = subst (λ x. IfErr x P) (sym is) holds
