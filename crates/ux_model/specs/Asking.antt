-- Calls that only ask: they leave the state as it was, whatever they answer.
use Rattle.std.specs.Prelude.{◌≡◌, ℕ, Bool, true, false, List, []}
use Rattle.ux_model.specs.Types.{Request, Reply}
use Rattle.ux_model.specs.State.{State}
use Rattle.ux_model.specs.Release.{settled}
use Rattle.ux_model.specs.Step.{Step}

-- getsockopt(2) isn't among them, since SO_ERROR clears what it reports
abbrev pub asks : Request → Bool
asks (Request.GetFlags fd) = true
asks (Request.InQueue fd) = true
asks (Request.OutQueue fd) = true
asks (Request.GetSockName fd) = true
asks (Request.GetPeerName fd) = true
asks (Request.Poll fd) = true
asks (Request.PollMany fds waits) = true
asks _ = false

-- of a state that has nothing left to release, as all states of legal histories are
abbrev pub AskingChangesNothing : Type 0
AskingChangesNothing =
    (S T : State) (p tag : ℕ) (request : Request) (reply : Reply) (gone : List ℕ) → asks request ≡ true → settled S ≡ S →
    Step S p tag request reply gone T → (T ≡ S) × (gone ≡ [])
