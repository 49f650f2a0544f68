-- What a read, a receive and a peek give of what waits, and when they tell the end of input (recv(2), MSG_PEEK; read(2); unix(7);
-- POSIX.1-2017, recv and read).
use Rattle.std.specs.Prelude.{◌≡◌, ℕ, suc, ◌<◌, ◌≤◌, min, true, false, List, [], ◌∷◌, ◌++◌, length, Option, Some, None}
use Rattle.std.specs.List.{slice_get}
use Rattle.ux_model.specs.Types.{Fd, Addr, MsgFlags, Request, Reply, Entry}
use Rattle.ux_model.specs.Limits.{read_limit}
use Rattle.ux_model.specs.Message.{Message, all_bytes}
use Rattle.ux_model.specs.Socket.{Socket, is_stream, is_dgram, peer_of}
use Rattle.ux_model.specs.State.{State, description_at, socket_at}
use Rattle.ux_model.specs.Receiving.{nothing_received}
use Rattle.ux_model.specs.History.{IsLegal}
use Rattle.ux_model.specs.Pedigree.{before}
use Rattle.ux_laws.specs.Talking.{is_peek, socket_through}
use Rattle.ux_laws.specs.Records.{is_given}

-- ---- the end of input

-- No more comes to socket s: it is shut down for reading, or its peer for writing, or the peer is gone.
pub data IsInputOver (S : State) (s : Socket) : Type 0 where
  shut : s.read_shut ≡ true → IsInputOver S s
  peer_shut : (peer : ℕ) (other : Socket) → peer_of s.phase ≡ Some peer → socket_at S peer ≡ Some other → other.write_shut ≡ true →
      IsInputOver S s
  peer_gone : (peer : ℕ) → peer_of s.phase ≡ Some peer → description_at S peer ≡ None → IsInputOver S s

-- A read or a receive of some bytes is rightly given none.
pub data GivesNone (S : State) (s : Socket) : Type 0 where
  -- Nothing is queued, input is over, and no ECONNRESET is pending.
  at_end : s.queue ≡ [] → IsInputOver S s → (is_dgram s.kind ≡ false → s.reset ≡ false) → GivesNone S s
  -- The oldest datagram or record that waits has no bytes.
  of_empty : (m : Message) (ms : List Message) → is_stream s.kind ≡ false → s.queue ≡ m ∷ ms → m.bytes ≡ [] → GivesNone S s

-- No read tells a false end,
abbrev pub ReadsEndTruly : Type 0
ReadsEndTruly = (boot : State) (entries : List Entry) (j n d : ℕ) (e : Entry) (fd : Fd) (s : Socket) → IsLegal boot entries →
    slice_get entries j ≡ Some e → e.request ≡ Request.Read fd n → 0 < n →
    socket_through (before boot entries j) e.pid.0 e.request ≡ Some (d, s) → e.reply ≡ Reply.Bytes [] → GivesNone (before boot entries j) s

-- nor a receive.
abbrev pub ReceivesEndTruly : Type 0
ReceivesEndTruly = (boot : State) (entries : List Entry) (j n space count d : ℕ) (e : Entry) (fd : Fd) (asked flags : MsgFlags)
    (control : List ℕ) (from : Option Addr) (s : Socket) → IsLegal boot entries → slice_get entries j ≡ Some e →
    e.request ≡ Request.RecvMsg fd n space asked → 0 < n → socket_through (before boot entries j) e.pid.0 e.request ≡ Some (d, s) →
    e.reply ≡ Reply.Received flags count [] control from → GivesNone (before boot entries j) s

-- ---- what is given

-- These are the first bytes that wait in a queue, at most n.
pub record AreFirst (bytes : List ℕ) (n : ℕ) (queue : List Message) : Type 0 where
  pub behind : List ℕ
  pub joined : all_bytes queue ≡ bytes ++ behind
  pub few : length bytes ≤ n

-- So are those that a receive or a peek gives at a stream,
abbrev pub ReceivesGiveTheFirst : Type 0
ReceivesGiveTheFirst = (boot : State) (entries : List Entry) (j n space count d : ℕ) (e : Entry) (fd : Fd) (asked flags : MsgFlags)
    (bytes control : List ℕ) (from : Option Addr) (s : Socket) → IsLegal boot entries → slice_get entries j ≡ Some e →
    e.request ≡ Request.RecvMsg fd n space asked → e.reply ≡ Reply.Received flags count bytes control from →
    socket_through (before boot entries j) e.pid.0 e.request ≡ Some (d, s) → is_stream s.kind ≡ true → AreFirst bytes n s.queue

-- and those that a read gives.
abbrev pub ReadsGiveTheFirst : Type 0
ReadsGiveTheFirst = (boot : State) (entries : List Entry) (j n d : ℕ) (e : Entry) (fd : Fd) (bytes : List ℕ) (s : Socket) →
    IsLegal boot entries → slice_get entries j ≡ Some e → e.request ≡ Request.Read fd n → e.reply ≡ Reply.Bytes bytes →
    socket_through (before boot entries j) e.pid.0 e.request ≡ Some (d, s) → is_stream s.kind ≡ true →
    AreFirst bytes (min read_limit n) s.queue

-- A peek leaves each queue as it is.
abbrev pub PeeksTakeNothing : Type 0
PeeksTakeNothing = (boot : State) (entries : List Entry) (j d : ℕ) (e : Entry) (s t : Socket) → IsLegal boot entries →
    slice_get entries j ≡ Some e → is_peek e.request ≡ true → socket_at (before boot entries j) d ≡ Some s →
    socket_at (before boot entries (suc j)) d ≡ Some t → t.queue ≡ s.queue

-- ---- where nothing waits

-- A receive or a peek that isn't refused gives nothing there: no bytes, no control, no sender.
abbrev pub EmptyQueuesGiveNothing : Type 0
EmptyQueuesGiveNothing = (boot : State) (entries : List Entry) (j n space d : ℕ) (e : Entry) (fd : Fd) (asked : MsgFlags) (s : Socket) →
    IsLegal boot entries → slice_get entries j ≡ Some e → e.request ≡ Request.RecvMsg fd n space asked → is_given e.reply ≡ true →
    socket_through (before boot entries j) e.pid.0 e.request ≡ Some (d, s) → s.queue ≡ [] → e.reply ≡ nothing_received

-- So does a read.
abbrev pub EmptyQueuesReadAsNothing : Type 0
EmptyQueuesReadAsNothing = (boot : State) (entries : List Entry) (j n d : ℕ) (e : Entry) (fd : Fd) (s : Socket) → IsLegal boot entries →
    slice_get entries j ≡ Some e → e.request ≡ Request.Read fd n → is_given e.reply ≡ true →
    socket_through (before boot entries j) e.pid.0 e.request ≡ Some (d, s) → s.queue ≡ [] → e.reply ≡ Reply.Bytes []
