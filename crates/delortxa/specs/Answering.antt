-- What is reported of a call.
use Rattle.std.specs.Prelude.{◌≡◌, ◌⊎◌, Bool, false}
use Rattle.ux_model.specs.Types.{Fd, Cred, SockOpt, Request, Reply}
use Rattle.ux_model.specs.ReplyKinds.{is_refusal}
use Rattle.ux_book.specs.declared.fault.CallFault.{CallFault}
use Rattle.delortxa.specs.declared.fault.CallError.{CallError}

-- the error of a reply that isn't of the kind that is wanted
abbrev pub other_error : Reply → CallError
other_error (Reply.Err errno) = CallError.Refused errno
other_error _ = CallError.Unlike

-- the error says why the reply isn't of the kind that is wanted
abbrev pub IsOther : (Reply → Bool) → Reply → CallError → Type 0
IsOther wanted reply (CallError.Refused errno) = reply ≡ Reply.Err errno
IsOther wanted reply (CallError.Fault fault) = ⊥
IsOther wanted reply CallError.Unlike = (wanted reply ≡ false) × (is_refusal reply ≡ false)

-- ---- calls

-- What an error says of a call: it was made and refused, or it wasn't made and nothing has changed. No call's reply is of another kind than
-- its request's.
abbrev pub Explains : {S : Type 0} → (Reply → Type 0) → (CallFault → Type 0) → S → S → CallError → Type 0
Explains did unmade old new (CallError.Refused errno) = did (Reply.Err errno)
Explains did unmade old new (CallError.Fault fault) = (new ≡ old) × unmade fault
Explains did unmade old new CallError.Unlike = ⊥

-- So of a call by its name: where it wasn't made there is no memory for its request, or it can't be made.
abbrev pub Fails : {C S : Type 0} → (C → S → S → Request → Reply → Type 0) → (C → S → Request → CallFault → Type 0) → C → S → S → Request →
    CallError → Type 0
Fails did unmade who old new request error =
    Explains (did who old new request) (λ (fault : CallFault). (fault ≡ CallFault.NoMemory) ⊎ unmade who old request fault) old new error

-- So of an option that is asked for as a number: credentials aren't one.
abbrev pub FailsAsNumber : {C S : Type 0} → (C → S → S → Request → Reply → Type 0) → (C → S → Request → CallFault → Type 0) → C → S → S →
    Fd → SockOpt → CallError → Type 0
FailsAsNumber did unmade who old new fd opt CallError.Unlike =
    (opt ≡ SockOpt.PeerCred) × (cred : Cred) × did who old new (Request.GetOpt fd opt) (Reply.Cred cred)
FailsAsNumber did unmade who old new fd opt error = Fails did unmade who old new (Request.GetOpt fd opt) error
