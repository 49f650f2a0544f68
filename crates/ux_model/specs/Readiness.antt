-- Which conditions poll(2) reports of a descriptor: all that hold now.
use Rattle.std.specs.Prelude.{ℕ, ◌+◌, Bool, true, false, not, ◌&&◌, ◌||◌, ◌==◌, if◌then◌else◌, length, Option, Some, None}
use Rattle.ux_model.specs.Types.{Fd, PollFlags, Reply}
use Rattle.ux_model.specs.Places.{place}
use Rattle.ux_model.specs.Flags.{can_read, can_write, poll_in, poll_out, poll_rdhup, poll_hup, poll_err, poll_nval}
use Rattle.ux_model.specs.Object.{View, ready, is_pipe}
use Rattle.ux_model.specs.Socket.{Socket, is_dgram, peer_of, association_of, takes_from, has_room}
use Rattle.ux_model.specs.Description.{Description, to_object, to_socket}
use Rattle.ux_model.specs.State.{State, description_at, socket_at}
use Rattle.ux_model.specs.Outcome.{Outcome, answer, descriptor_at}
use Rattle.ux_model.specs.FileObjects.{is_open_for}
use Rattle.ux_model.specs.Connecting.{Listener, listener_of}

pub record Conditions : Type 0 where
  -- POLLIN: a read has something to report at once
  pub readable : Bool
  -- POLLOUT: so has a write
  pub writable : Bool
  -- POLLRDHUP: no more will come
  pub read_hung : Bool
  -- POLLHUP: and no more can be sent
  pub hung : Bool
  -- POLLERR
  pub failed : Bool

abbrev pub no_conditions : Conditions
no_conditions = record { readable = false; writable = false; read_hung = false; hung = false; failed = false }

abbrev pub poll_flags : Conditions → PollFlags
poll_flags c = record {
  0 = (if c.readable then poll_in else 0)
      + ((if c.writable then poll_out else 0)
      + ((if c.read_hung then poll_rdhup else 0)
      + ((if c.hung then poll_hup else 0)
      + (if c.failed then poll_err else 0))));
}

-- the number isn't open
abbrev pub not_open : PollFlags
not_open = record { 0 = poll_nval }

-- ---- sockets

abbrev pub has_unread : Socket → Bool
has_unread s = not (length s.queue == 0)

-- one that is connected to another, which is there: input is over where this one is shut down for reading, or the other for writing
abbrev pub connected_conditions : Socket → Socket → Conditions
connected_conditions s other =
    let over : Bool = s.read_shut || other.write_shut in
    record {
      readable = has_unread s || s.reset || over;
      writable = has_room other || s.write_shut || other.read_shut;
      read_hung = over;
      hung = s.read_shut && s.write_shut;
      failed = s.reset;
    }

-- one whose peer is gone
abbrev pub lost_conditions : Socket → Conditions
lost_conditions s = record { readable = true; writable = true; read_hung = true; hung = true; failed = s.reset }

abbrev pub by_peer : Socket → Option Socket → Conditions
by_peer s None = lost_conditions s
by_peer s (Some other) = connected_conditions s other

-- One that isn't connected: a listener is readable where an end waits for accept, and never hung up; any other is hung up.
abbrev pub listener_conditions : Option Listener → Conditions
listener_conditions None = record no_conditions { hung = true }
listener_conditions (Some kept) = record no_conditions { readable = not (length kept.backlog.pending == 0) }

abbrev pub stream_conditions : State → Socket → Conditions
stream_conditions S s = elim (peer_of s.phase) [
  | None ↦ listener_conditions (listener_of s.phase)
  | Some peer ↦ by_peer s (socket_at S peer)
]

-- A datagram to this target needn't wait: it is taken, or refused for another reason than a full queue.
abbrev pub target_takes : ℕ → Socket → Option Socket → Bool
target_takes d s None = true
target_takes d s (Some target) = s.write_shut || not (takes_from d target.phase) || target.read_shut || has_room target

-- and so without a target
abbrev pub sends_at_once : State → ℕ → Socket → Bool
sends_at_once S d s = elim (association_of s.phase) [ None ↦ true | Some t ↦ target_takes d s (socket_at S t) ]

abbrev pub datagram_conditions : State → ℕ → Socket → Conditions
datagram_conditions S d s = record no_conditions { readable = has_unread s || s.read_shut; writable = sends_at_once S d s }

-- of the socket with this number
unfoldable pub socket_conditions : State → ℕ → Socket → Conditions
socket_conditions S d s = if is_dgram s.kind then datagram_conditions S d s else stream_conditions S s

-- ---- file objects

-- A pipe without a writer hangs up its readers, and without a reader fails its writers.
unfoldable pub file_conditions : State → Description → ℕ → View → Conditions
file_conditions S D o view = record {
  readable = can_read D.mode && (ready view.body).0;
  writable = can_write D.mode && (ready view.body).1;
  read_hung = false;
  hung = is_pipe view.body && (can_read D.mode && not (is_open_for can_write S o));
  failed = is_pipe view.body && (can_write D.mode && not (is_open_for can_read S o));
}

abbrev pub object_conditions : State → Description → ℕ → Option View → Conditions
object_conditions S D o None = no_conditions
object_conditions S D o (Some view) = file_conditions S D o view

-- ---- poll(2)

-- of the description with this number
abbrev pub readiness : State → ℕ → Description → Conditions
readiness S d D = elim D.target [ to_object o ↦ object_conditions S D o (place S.objects o) | to_socket s ↦ socket_conditions S d s ]

abbrev pub flags_at : State → ℕ → PollFlags
flags_at S d = elim (description_at S d) [ None ↦ not_open | Some D ↦ poll_flags (readiness S d D) ]

-- poll(2) of one descriptor, without waiting
unfoldable pub poll : State → ℕ → Fd → Outcome
poll S p fd = elim (descriptor_at S p fd) [
  | None ↦ answer (Reply.Poll not_open) S
  | Some e ↦ answer (Reply.Poll (flags_at S e.description)) S
]
