-- What a function that makes a call answers and leaves, beside the outcome of the call.
use Rattle.std.specs.Prelude.{◌≡◌, ◌⊎◌, IsTrue, Some, Result, Ok, Err, MatchResult}
use Rattle.ux_model.specs.Types.{Errno, Refusal, Reply, Done}
use Rattle.ux_model.specs.State.{State}
use Rattle.ux_model.specs.Outcome.{Outcome}

-- an error is the outcome's reply; memory may be wanted where the outcome allows it, and nothing has changed then
abbrev pub GivesRefusal : State → Outcome → Refusal → State → Type 0
GivesRefusal S outcome (Refusal.Answer e) T = (Reply.Err e ≡ outcome.reply) × (T ≡ outcome.next)
GivesRefusal S outcome Refusal.NoMemory T = IsTrue outcome.may_lack_memory × (T ≡ S)

-- of an outcome without a file object
abbrev pub Gives : State → Outcome → Result Reply Refusal → State → Type 0
Gives S outcome answer T = MatchResult answer
    (λ reply. (reply ≡ outcome.reply) × (T ≡ outcome.next))
    (λ refusal. GivesRefusal S outcome refusal T)

-- and where a file object may fail
abbrev pub GivesOrFails : State → Outcome → Result Reply Refusal → State → Type 0
GivesOrFails S outcome answer T = Gives S outcome answer T ⊎ ((answer ≡ Err (Refusal.Answer Errno.EIO)) × (outcome.failure ≡ Some T))

-- the reply of an answer that reports rights besides
abbrev pub reply_of : Result Done Refusal → Result Reply Refusal
reply_of (Ok done) = Ok done.reply
reply_of (Err refusal) = Err refusal
