-- Streams are reliable: nothing is lost, doubled or reordered (unix(7), SOCK_STREAM; POSIX.1-2017, System Interfaces 2.10.6).
use Rattle.std.specs.Prelude.{◌≡◌, ℕ, true, if◌then◌else◌, List, [], ◌++◌, take, Some}
use Rattle.ux_model.specs.Types.{Entry, Request, Reply}
use Rattle.ux_model.specs.Message.{all_bytes}
use Rattle.ux_model.specs.Socket.{Socket, is_stream}
use Rattle.ux_model.specs.State.{State, socket_at}
use Rattle.ux_model.specs.History.{replay, IsLegal}
use Rattle.ux_laws.specs.Talking.{offered_bytes, taken_count, given_bytes, is_peek, sends_to, receives_through}
use Rattle.ux_laws.specs.Gathering.{gathered}

-- the bytes that a call of process p was answered to have sent to socket d
abbrev pub sent_now : ℕ → State → ℕ → Request → Reply → List ℕ
sent_now d S p request reply = if sends_to S d p request then take (taken_count reply) (offered_bytes request) else []

-- the bytes that it was given by socket d and that are gone from there: a peek leaves them
abbrev pub received_now : ℕ → State → ℕ → Request → Reply → List ℕ
received_now d S p request reply = if is_peek request then [] else if receives_through S d p request then given_bytes reply else []

-- the same of all calls of a history, in order
abbrev pub bytes_sent : State → ℕ → List Entry → List ℕ
bytes_sent boot d entries = gathered (λ n S e. sent_now d S e.pid.0 e.request e.reply) boot entries

abbrev pub bytes_received : State → ℕ → List Entry → List ℕ
bytes_received boot d entries = gathered (λ n S e. received_now d S e.pid.0 e.request e.reply) boot entries

-- What was sent to a stream socket is what was received from it, followed by what waits at it, as long as it is there.
abbrev pub StreamsAreReliable : Type 0
StreamsAreReliable = (boot : State) (entries : List Entry) (d : ℕ) (s : Socket) → IsLegal boot entries →
    socket_at (replay boot entries) d ≡ Some s → is_stream s.kind ≡ true →
    bytes_sent boot d entries ≡ bytes_received boot d entries ++ all_bytes s.queue
