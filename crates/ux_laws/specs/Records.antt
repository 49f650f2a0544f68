-- Records arrive once, whole and in order (unix(7), SOCK_DGRAM and SOCK_SEQPACKET; recvmsg(2), MSG_TRUNC; POSIX.1-2017, recvmsg).
use Rattle.std.specs.Prelude.{◌≡◌, ℕ, ◌<◌, min, Bool, true, false, ◌&&◌, nat_lt, if◌then◌else◌, List, [], ◌∷◌, ◌++◌, length, map, take}
use Rattle.std.specs.Prelude.{Option, Some, None}
use Rattle.std.specs.List.{slice_get}
use Rattle.ux_model.specs.Types.{Fd, Addr, MsgFlags, Request, Reply, Entry}
use Rattle.ux_model.specs.Flags.{has_bits, msg_trunc, asks_real_length}
use Rattle.ux_model.specs.Limits.{read_limit}
use Rattle.ux_model.specs.Message.{Message}
use Rattle.ux_model.specs.Socket.{Socket, is_stream, is_dgram}
use Rattle.ux_model.specs.State.{State, socket_at}
use Rattle.ux_model.specs.History.{replay, IsLegal}
use Rattle.ux_model.specs.Pedigree.{before}
use Rattle.ux_laws.specs.Gathering.{gathered}
use Rattle.ux_laws.specs.Talking.{offered_bytes, is_peek, socket_through, sends_to, receives_through}

-- ---- what is sent, and what is taken

pub record Packet : Type 0 where
  -- the number of the call that sent it
  pub call : ℕ
  pub bytes : List ℕ
  -- of a datagram: the name that its sender had then
  pub from : Option Addr

-- a message that waits, as a packet
abbrev pub packet_of : Message → Packet
packet_of m = record { call = m.tag; bytes = m.bytes; from = m.from }

abbrev pub name_of_sender : Option (ℕ × Socket) → Option Addr
name_of_sender None = None
name_of_sender (Some found) = if is_dgram found.1.kind then Some found.1.name else None

-- what call n of process p sends
abbrev pub packet_sent : ℕ → State → ℕ → Request → Packet
packet_sent n S p request = record { call = n; bytes = offered_bytes request; from = name_of_sender (socket_through S p request) }

-- the answer of a send that went out, and of a receive or a read that wasn't refused
abbrev pub is_count : Reply → Bool
is_count (Reply.Count n) = true
is_count _ = false

abbrev pub is_given : Reply → Bool
is_given (Reply.Bytes bytes) = true
is_given (Reply.Received flags count bytes control from) = true
is_given _ = false

-- the packet that the oldest message is, if one waits
abbrev pub oldest_at : Option (ℕ × Socket) → List Packet
oldest_at None = []
oldest_at (Some found) = take 1 (map packet_of found.1.queue)

-- what call n sends to socket d, and what it takes from there
abbrev pub sent_packet : ℕ → ℕ → State → ℕ → Request → Reply → List Packet
sent_packet d n S p request reply = if sends_to S d p request && is_count reply then packet_sent n S p request ∷ [] else []

abbrev pub taken_packet : ℕ → State → ℕ → Request → Reply → List Packet
taken_packet d S p request reply =
    if is_peek request then [] else
    if receives_through S d p request && is_given reply then oldest_at (socket_through S p request) else []

-- the same of all calls of a history, in order
abbrev pub packets_sent : State → ℕ → List Entry → List Packet
packets_sent boot d entries = gathered (λ n S e. sent_packet d n S e.pid.0 e.request e.reply) boot entries

abbrev pub packets_taken : State → ℕ → List Entry → List Packet
packets_taken boot d entries = gathered (λ n S e. taken_packet d S e.pid.0 e.request e.reply) boot entries

-- ---- the laws

-- What was sent to a datagram or seqpacket socket was taken from it, in order, or waits behind that, as long as the socket is there.
abbrev pub RecordsArriveInOrder : Type 0
RecordsArriveInOrder = (boot : State) (entries : List Entry) (d : ℕ) (s : Socket) → IsLegal boot entries →
    socket_at (replay boot entries) d ≡ Some s → is_stream s.kind ≡ false →
    packets_sent boot d entries ≡ packets_taken boot d entries ++ map packet_of s.queue

-- No packet is taken twice: the numbers of their calls rise.
abbrev pub RecordsArriveOnce : Type 0
RecordsArriveOnce = (boot : State) (entries : List Entry) (d i k : ℕ) (s : Socket) (a b : Packet) → IsLegal boot entries →
    socket_at (replay boot entries) d ≡ Some s → is_stream s.kind ≡ false → slice_get (packets_taken boot d entries) i ≡ Some a →
    slice_get (packets_taken boot d entries) k ≡ Some b → i < k → a.call < b.call

-- What a receive or a peek of at most n bytes gives of a message: its bytes, cut to n; MSG_TRUNC exactly if that left some out; with
-- MSG_TRUNC asked for, the length that it had; and its sender's name.
pub record IsGiven (m : Message) (n : ℕ) (asked flags : MsgFlags) (count : ℕ) (bytes : List ℕ) (from : Option Addr) : Type 0 where
  pub cut : bytes ≡ take n m.bytes
  pub truncated : has_bits flags.0 msg_trunc ≡ nat_lt n (length m.bytes)
  pub counted : count ≡ (if asks_real_length asked then length m.bytes else length bytes)
  pub sender : from ≡ m.from

-- so of the oldest that waits
abbrev pub RecordsArriveWhole : Type 0
RecordsArriveWhole = (boot : State) (entries : List Entry) (j n space count d : ℕ) (e : Entry) (fd : Fd) (asked flags : MsgFlags)
    (bytes control : List ℕ) (from : Option Addr) (s : Socket) (m : Message) (ms : List Message) → IsLegal boot entries →
    slice_get entries j ≡ Some e → e.request ≡ Request.RecvMsg fd n space asked → e.reply ≡ Reply.Received flags count bytes control from →
    socket_through (before boot entries j) e.pid.0 e.request ≡ Some (d, s) → is_stream s.kind ≡ false → s.queue ≡ m ∷ ms →
    IsGiven m n asked flags count bytes from

-- and a read gives the bytes
abbrev pub ReadRecordsArriveWhole : Type 0
ReadRecordsArriveWhole = (boot : State) (entries : List Entry) (j n d : ℕ) (e : Entry) (fd : Fd) (bytes : List ℕ) (s : Socket) (m : Message)
    (ms : List Message) → IsLegal boot entries → slice_get entries j ≡ Some e → e.request ≡ Request.Read fd n →
    e.reply ≡ Reply.Bytes bytes → socket_through (before boot entries j) e.pid.0 e.request ≡ Some (d, s) → is_stream s.kind ≡ false →
    s.queue ≡ m ∷ ms → bytes ≡ take (min read_limit n) m.bytes
