-- What the clauses of a reply say of a call.
use Rattle.std.proofs.Common.{◌≡◌, ◌⊎◌, ◌||◌, Bool, true, false, refl, ap, sym, subst, ◌∙◌}
use Rattle.ux_model.specs.Types.{Fd, SockOpt, Request, Reply}
use Rattle.ux_model.specs.ReplyKinds.{is_value, is_refusal, option_kind, kind_of, is_reply_to}
use Rattle.ux_book.specs.declared.fault.CallFault.{CallFault}
use Rattle.delortxa.specs.declared.fault.CallError.{CallError}
use Rattle.delortxa.specs.Answering.{IsOther, Explains, Fails, FailsAsNumber}

-- an error that is reported of a reply is one of the call, whose reply is a refusal or as it was looked for
pub explains : {S : Type 0} (wanted : Reply → Bool) (did : Reply → Type 0) (unmade : CallFault → Type 0) (old new : S) (reply : Reply)
    (error : CallError) →
    did reply → IsOther wanted reply error → (wanted reply || is_refusal reply) ≡ true → Explains did unmade old new error
explains wanted did unmade old new reply (CallError.Refused errno) made is suits = subst did is made
explains wanted did unmade old new reply (CallError.Fault fault) made is suits = absurd is
explains wanted did unmade old new reply CallError.Unlike made is suits =
    absurd (cc (sym (ap (λ b. b || is_refusal reply) is.0 ∙ is.1) ∙ suits))

module _ {C S : Type 0} (did : C → S → S → Request → Reply → Type 0) (unmade : C → S → Request → CallFault → Type 0) where
  pub fails : (wanted : Reply → Bool) (who : C) (old new : S) (request : Request) (reply : Reply) (error : CallError) →
      did who old new request reply → IsOther wanted reply error → is_reply_to request reply ≡ true → kind_of request ≡ wanted →
      Fails did unmade who old new request error
  fails wanted who old new request reply error made is suits kind =
      explains wanted (did who old new request) (λ (fault : CallFault). (fault ≡ CallFault.NoMemory) ⊎ unmade who old request fault) old new
      reply error made is
      (sym (ap (λ k. k reply || is_refusal reply) kind) ∙ suits)

  pub fails_as_number : (who : C) (old new : S) (fd : Fd) (opt : SockOpt) (reply : Reply) (error : CallError) →
      did who old new (Request.GetOpt fd opt) reply → IsOther is_value reply error → (option_kind opt reply || is_refusal reply) ≡ true →
      FailsAsNumber did unmade who old new fd opt error
  fails_as_number who old new fd opt reply (CallError.Refused errno) made is suits = subst (did who old new (Request.GetOpt fd opt)) is made
  fails_as_number who old new fd opt reply (CallError.Fault fault) made is suits = absurd is
  fails_as_number who old new fd SockOpt.PeerCred reply CallError.Unlike made is suits = told reply made is.1 suits
    where
      told : (reply : Reply) → did who old new (Request.GetOpt fd SockOpt.PeerCred) reply → is_refusal reply ≡ false →
          (option_kind SockOpt.PeerCred reply || is_refusal reply) ≡ true →
          FailsAsNumber did unmade who old new fd SockOpt.PeerCred CallError.Unlike
      told (Reply.Cred cred) made apart suits = (refl, cred, made)
      told (Reply.Err errno) made apart suits = absurd (cc apart)
      told _ made apart suits = absurd (cc suits)
  fails_as_number who old new fd opt reply CallError.Unlike made is suits =
      absurd (cc (sym (ap (λ b. b || is_refusal reply) is.0 ∙ is.1) ∙ suits))
