-- What a supervisor is told of a description: what poll(2) reports of it, and what is unread at its socket (ioctl(2), FIONREAD).
use Rattle.std.specs.Prelude.{ℕ, Bool, ◌==◌, ◌&&◌, List, [], length, Option, Some, None}
use Rattle.ux_model.specs.Message.{Message, queued_bytes}
use Rattle.ux_model.specs.Socket.{Socket}
use Rattle.ux_model.specs.State.{State, socket_at}
use Rattle.ux_model.specs.Readiness.{flags_at, not_open}
use Rattle.ux_watch.specs.declared.told.Told.{Told}

-- the unread messages of a socket, if there is one
abbrev pub unread : Option Socket → List Message
unread None = []
unread (Some s) = s.queue

-- of the description with this number, in this state
abbrev pub told : State → ℕ → Told
told S d = record { flags = flags_at S d; bytes = queued_bytes (unread (socket_at S d)); messages = length (unread (socket_at S d)) }

-- of one that isn't there
abbrev pub gone : Told
gone = record { flags = not_open; bytes = 0; messages = 0 }

abbrev pub is_same : Told → Told → Bool
is_same a b = (a.flags.0 == b.flags.0) && ((a.bytes == b.bytes) && (a.messages == b.messages))
