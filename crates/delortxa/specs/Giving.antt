-- Bytes that are given whole, by as many calls as it takes.
use Rattle.std.specs.Prelude.{◌≡◌, ◌+◌, ℕ, zero, suc, List, [], length, drop, Option, Some, None}
use Rattle.ux_model.specs.Types.{Fd, Request, Reply}
use Rattle.ux_book.specs.declared.fault.CallFault.{CallFault}
use Rattle.ux_calls.specs.Calls.{no_msg_flags}
use Rattle.delortxa.specs.declared.fault.CallError.{CallError}
use Rattle.delortxa.specs.declared.whole.Way.{Way}
use Rattle.delortxa.specs.declared.whole.Unfinished.{Unfinished}
use Rattle.delortxa.specs.Answering.{Fails}

-- the call that offers these bytes
abbrev pub request_of : Way → Fd → List ℕ → Request
request_of Way.Write fd bytes = Request.Write fd bytes
request_of Way.Send fd bytes = Request.SendMsg fd None bytes [] no_msg_flags

-- So many calls were made, each of which offered what those before it had left; in the end this much is left.
abbrev pub Takes : {C S : Type 0} → (C → S → S → Request → Reply → Type 0) → C → (List ℕ → Request) → List ℕ → ℕ → List ℕ → S → S → Type 0
Takes did who ask bytes zero left old new = (left ≡ bytes) × (new ≡ old)
Takes {C} {S} did who ask bytes (suc k) left old new =
    (before : List ℕ) × (mid : S) × (taken : ℕ) × Takes did who ask bytes k before old mid
    × did who mid new (ask before) (Reply.Count taken) × (left ≡ drop taken before)

-- why the last call took none: its error, or its answer
abbrev pub TakesNone : {C S : Type 0} → (C → S → S → Request → Reply → Type 0) → (C → S → Request → CallFault → Type 0) → C → S →
    S → Request → Option CallError → Type 0
TakesNone did unmade who old new request (Some error) = Fails did unmade who old new request error
TakesNone did unmade who old new request None = did who old new request (Reply.Count 0)

-- after some calls so many bytes were taken, and one more call took none
pub record EndsEarly {C S : Type 0} (did : C → S → S → Request → Reply → Type 0) (unmade : C → S → Request → CallFault → Type 0) (who : C)
    (ask : List ℕ → Request) (bytes : List ℕ) (old new : S) (u : Unfinished) : Type 0 where
  pub calls : ℕ
  pub left : List ℕ
  pub mid : S
  pub took : Takes did who ask bytes calls left old mid
  pub count : u.taken + length left ≡ length bytes
  pub last : TakesNone did unmade who mid new (ask left) u.error

-- the first call offered all of it, and of what it left this is so
abbrev pub AfterFirst : {C S : Type 0} → (C → S → S → Request → Reply → Type 0) → C → Request → List ℕ → S → (S → List ℕ → Type 0) → Type 0
AfterFirst {C} {S} did who first bytes old rest =
    (mid : S) × (taken : ℕ) × did who old mid first (Reply.Count taken) × rest mid (drop taken bytes)

-- the first call failed, and no byte was taken; or one after it took none
pub data EndsEarlyAfter {C S : Type 0} (did : C → S → S → Request → Reply → Type 0) (unmade : C → S → Request → CallFault → Type 0)
    (who : C) (first : Request) (ask : List ℕ → Request) (bytes : List ℕ) (old new : S) (u : Unfinished) : Type 0 where
  at_first : (error : CallError) → u.taken ≡ 0 → u.error ≡ Some error → Fails did unmade who old new first error →
      EndsEarlyAfter did unmade who first ask bytes old new u
  later : AfterFirst did who first bytes old (λ mid left. (v : Unfinished) × EndsEarly did unmade who ask left mid new v ×
      (u.error ≡ v.error) × (u.taken + length left ≡ length bytes + v.taken)) → EndsEarlyAfter did unmade who first ask bytes old new u
