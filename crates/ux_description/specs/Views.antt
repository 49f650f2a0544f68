-- What contracts see of a socket's phase, and of its queue.
use Rattle.std.specs.Prelude.{List}
use Rattle.ux_model.specs.Types.{SockType}
use Rattle.ux_model.specs.Message.{Message}
use Rattle.ux_model.specs.Socket.{Phase, idle, listening, connected, associated}
use Rattle.ux_description.specs.declared.phase.Phase as code
use Rattle.ux_description.specs.declared.queue.Queue as queue

abbrev pub phase_of : code.Phase → Phase
phase_of code.TheVariants.Idle = idle
phase_of (code.TheVariants.Listening l) = listening l.backlog l.cred
phase_of (code.TheVariants.Connected peer) = connected peer
phase_of (code.TheVariants.Associated target) = associated target

abbrev pub kind_of : queue.Queue → SockType
kind_of (queue.TheVariants.Stream q) = SockType.Stream
kind_of (queue.TheVariants.Dgram q) = SockType.Dgram
kind_of (queue.TheVariants.Seq q) = SockType.Seq

abbrev pub messages_of : queue.Queue → List Message
messages_of (queue.TheVariants.Stream q) = q
messages_of (queue.TheVariants.Dgram q) = q
messages_of (queue.TheVariants.Seq q) = q
