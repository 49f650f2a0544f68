-- What brings room to a send that waits, and a place to a connect (send(2), write(2), recv(2), shutdown(2), connect(2), accept(2),
-- listen(2); unix(7)).
use Rattle.std.specs.Prelude.{◌≡◌, ◌≢◌, ◌⊎◌, ℕ, suc, ◌+◌, ◌<◌, ◌≤◌, Bool, true, false, ℤ, List, length, Some, None, Ok}
use Rattle.std.specs.List.{slice_get}
use Rattle.ux_model.specs.Types.{Errno, Fd, Addr, SockOpt, Mode, OpenFlags, Request, Reply, Entry}
use Rattle.ux_model.specs.Flags.{can_read, can_write}
use Rattle.ux_model.specs.Message.{queued_bytes}
use Rattle.ux_model.specs.Backlog.{backlog_of}
use Rattle.ux_model.specs.Socket.{Socket, is_stream, is_dgram, peer_of, has_room}
use Rattle.ux_model.specs.State.{State, description_at, socket_at}
use Rattle.ux_model.specs.Outcome.{find_socket}
use Rattle.ux_model.specs.Binding.{look_up}
use Rattle.ux_model.specs.Connecting.{Listener, listener_of}
use Rattle.ux_model.specs.History.{IsLegal}
use Rattle.ux_model.specs.Pedigree.{before}
use Rattle.ux_laws.specs.Talking.{is_peek, given_bytes, socket_through, sends_to, receives_through}
use Rattle.ux_laws.specs.Records.{is_given}
use Rattle.ux_laws.specs.Credentials.{socket_behind}
use Rattle.ux_laws.specs.Waits.{AwaitsRoom}

-- ---- room in a queue

-- A call makes room in the queue of socket d, which is s:
pub data MakesRoom (S : State) (e : Entry) (d : ℕ) (s : Socket) : Type 0 where
  -- a receive or a read that isn't refused, of a record, or of so many bytes of a stream that fewer than the limit are left
  by_receive : receives_through S d e.pid.0 e.request ≡ true → is_peek e.request ≡ false → is_given e.reply ≡ true →
      (is_stream s.kind ≡ true → queued_bytes s.queue < length (given_bytes e.reply) + s.queue_limit) → MakesRoom S e d s
  -- a new limit, above what waits
  by_limit : (fd : Fd) (value : ℕ) → e.request ≡ Request.SetOpt fd SockOpt.QueueLimit value → e.reply ≡ Reply.Ok →
      socket_behind S e.pid.0 fd ≡ Some d → queued_bytes s.queue < value → MakesRoom S e d s

-- Then it has room.
abbrev pub QueuesGetRoom : Type 0
QueuesGetRoom = (boot : State) (entries : List Entry) (j d : ℕ) (e : Entry) (s t : Socket) → IsLegal boot entries →
    slice_get entries j ≡ Some e → socket_at (before boot entries j) d ≡ Some s → MakesRoom (before boot entries j) e d s →
    socket_at (before boot entries (suc j)) d ≡ Some t → has_room t ≡ true

-- a send or a write
abbrev pub is_send : Request → Bool
is_send (Request.Write fd bytes) = true
is_send (Request.SendMsg fd addr bytes control flags) = true
is_send _ = false

-- So the next call, where that is one to this socket, of whatever type, doesn't wait.
abbrev pub SendsFindRoom : Type 0
SendsFindRoom = (boot : State) (entries : List Entry) (j d : ℕ) (e next : Entry) (s : Socket) → IsLegal boot entries →
    slice_get entries j ≡ Some e → socket_at (before boot entries j) d ≡ Some s → MakesRoom (before boot entries j) e d s →
    slice_get entries (suc j) ≡ Some next → is_send next.request ≡ true →
    sends_to (before boot entries (suc j)) d next.pid.0 next.request ≡ true → next.reply ≢ Reply.Err Errno.EAGAIN

-- ---- send(2) and write(2), of stream and seqpacket sockets

-- A send through connected socket s needn't wait: the peer's queue has room, or the pipe is broken.
pub data NeedsNoRoom (S : State) (s : Socket) : Type 0 where
  in_queue : (peer : ℕ) (other : Socket) → peer_of s.phase ≡ Some peer → socket_at S peer ≡ Some other → has_room other ≡ true →
      NeedsNoRoom S s
  shut : s.write_shut ≡ true → NeedsNoRoom S s
  peer_shut : (peer : ℕ) (other : Socket) → peer_of s.phase ≡ Some peer → socket_at S peer ≡ Some other → other.read_shut ≡ true →
      NeedsNoRoom S s
  peer_gone : (peer : ℕ) → peer_of s.phase ≡ Some peer → description_at S peer ≡ None → NeedsNoRoom S s

-- Through a connected socket a send needs no room, or has to wait for some, and never both.
pub record SendsOrWaits (S : State) (s : Socket) : Type 0 where
  pub one : NeedsNoRoom S s ⊎ AwaitsRoom S s
  pub apart : NeedsNoRoom S s → AwaitsRoom S s → ⊥

abbrev pub RoomOrWait : Type 0
RoomOrWait = (boot : State) (entries : List Entry) (j d peer : ℕ) (s : Socket) → IsLegal boot entries →
    socket_at (before boot entries j) d ≡ Some s → peer_of s.phase ≡ Some peer → SendsOrWaits (before boot entries j) s

-- What brings room to who sends through connected socket d, which is s, by a call from S to T.
pub data BringsRoom (S : State) (e : Entry) (d : ℕ) (s : Socket) (T : State) : Type 0 where
  -- one that makes room in the peer's queue
  at_peer : (peer : ℕ) (other : Socket) → peer_of s.phase ≡ Some peer → socket_at S peer ≡ Some other → MakesRoom S e peer other →
      BringsRoom S e d s T
  -- a shutdown for writing, or of the peer for reading
  by_shutdown : (fd : Fd) (how : Mode) → e.request ≡ Request.Shutdown fd how → e.reply ≡ Reply.Ok → can_write how ≡ true →
      socket_behind S e.pid.0 fd ≡ Some d → BringsRoom S e d s T
  by_peer : (peer : ℕ) (fd : Fd) (how : Mode) → peer_of s.phase ≡ Some peer → e.request ≡ Request.Shutdown fd how → e.reply ≡ Reply.Ok →
      can_read how ≡ true → socket_behind S e.pid.0 fd ≡ Some peer → BringsRoom S e d s T
  -- one by which the peer is freed
  by_loss : (peer : ℕ) → peer_of s.phase ≡ Some peer → description_at T peer ≡ None → BringsRoom S e d s T

-- Then a send through it needn't wait.
abbrev pub RoomsCome : Type 0
RoomsCome = (boot : State) (entries : List Entry) (j d : ℕ) (e : Entry) (s t : Socket) → IsLegal boot entries →
    slice_get entries j ≡ Some e → socket_at (before boot entries j) d ≡ Some s →
    BringsRoom (before boot entries j) e d s (before boot entries (suc j)) → socket_at (before boot entries (suc j)) d ≡ Some t →
    NeedsNoRoom (before boot entries (suc j)) t

-- So the next call, where that is a send or a write through it, doesn't.
abbrev pub SendsGoOn : Type 0
SendsGoOn = (boot : State) (entries : List Entry) (j d : ℕ) (e next : Entry) (s t : Socket) → IsLegal boot entries →
    slice_get entries j ≡ Some e → socket_at (before boot entries j) d ≡ Some s → is_dgram s.kind ≡ false →
    BringsRoom (before boot entries j) e d s (before boot entries (suc j)) → slice_get entries (suc j) ≡ Some next →
    is_send next.request ≡ true → socket_through (before boot entries (suc j)) next.pid.0 next.request ≡ Some (d, t) →
    next.reply ≢ Reply.Err Errno.EAGAIN

-- ---- send(2) and write(2), of datagram sockets

-- What lets a datagram of socket d go to another, or be refused there, by a call from S to T.
pub data LetsGo (S : State) (e : Entry) (d number : ℕ) (T : State) : Type 0 where
  -- one that makes room in the other's queue
  by_room : (target : Socket) → socket_at S number ≡ Some target → MakesRoom S e number target → LetsGo S e d number T
  -- a shutdown for writing, or of the other for reading
  by_sender : (fd : Fd) (how : Mode) → e.request ≡ Request.Shutdown fd how → e.reply ≡ Reply.Ok → can_write how ≡ true →
      socket_behind S e.pid.0 fd ≡ Some d → LetsGo S e d number T
  by_target : (fd : Fd) (how : Mode) → e.request ≡ Request.Shutdown fd how → e.reply ≡ Reply.Ok → can_read how ≡ true →
      socket_behind S e.pid.0 fd ≡ Some number → LetsGo S e d number T
  -- one by which the other is freed
  gone : description_at T number ≡ None → LetsGo S e d number T

-- So the next call, where that sends one there, doesn't wait.
abbrev pub DatagramsGoOn : Type 0
DatagramsGoOn = (boot : State) (entries : List Entry) (j d number : ℕ) (e next : Entry) (t : Socket) → IsLegal boot entries →
    slice_get entries j ≡ Some e → LetsGo (before boot entries j) e d number (before boot entries (suc j)) →
    slice_get entries (suc j) ≡ Some next → is_send next.request ≡ true →
    socket_through (before boot entries (suc j)) next.pid.0 next.request ≡ Some (d, t) → is_dgram t.kind ≡ true →
    sends_to (before boot entries (suc j)) number next.pid.0 next.request ≡ true → next.reply ≢ Reply.Err Errno.EAGAIN

-- ---- connect(2), of stream and seqpacket sockets

-- Socket s listens, and its backlog has a place: with fewer ends than its limit.
pub record HasPlace (s : Socket) : Type 0 where
  pub kept : Listener
  pub listens : listener_of s.phase ≡ Some kept
  pub free : length kept.backlog.pending < kept.backlog.limit

-- What brings a place to listener d, which keeps this:
pub data BringsPlace (S : State) (e : Entry) (d : ℕ) (kept : Listener) : Type 0 where
  -- an accept that takes an end, where no more wait than may
  by_accept : (fd : Fd) (flags : OpenFlags) (n : Fd) (name : Addr) → e.request ≡ Request.Accept fd flags → e.reply ≡ Reply.Accepted n name →
      socket_behind S e.pid.0 fd ≡ Some d → length kept.backlog.pending ≤ kept.backlog.limit → BringsPlace S e d kept
  -- a listen with a larger backlog than wait
  by_listen : (fd : Fd) (backlog : ℤ) → e.request ≡ Request.Listen fd backlog → e.reply ≡ Reply.Ok →
      socket_behind S e.pid.0 fd ≡ Some d → length kept.backlog.pending < backlog_of backlog → BringsPlace S e d kept

-- Then it has one.
abbrev pub PlacesCome : Type 0
PlacesCome = (boot : State) (entries : List Entry) (j d : ℕ) (e : Entry) (s t : Socket) (kept : Listener) → IsLegal boot entries →
    slice_get entries j ≡ Some e → socket_at (before boot entries j) d ≡ Some s → listener_of s.phase ≡ Some kept →
    BringsPlace (before boot entries j) e d kept → socket_at (before boot entries (suc j)) d ≡ Some t → HasPlace t

-- So the next call, where that is a connect of a stream or seqpacket socket to it, doesn't wait.
abbrev pub ConnectsFindAPlace : Type 0
ConnectsFindAPlace = (boot : State) (entries : List Entry) (j c d : ℕ) (e next : Entry) (fd : Fd) (addr : Addr)
    (s t client : Socket) (kept : Listener) → IsLegal boot entries → slice_get entries j ≡ Some e →
    socket_at (before boot entries j) d ≡ Some s → listener_of s.phase ≡ Some kept → BringsPlace (before boot entries j) e d kept →
    slice_get entries (suc j) ≡ Some next → next.request ≡ Request.Connect fd addr →
    find_socket (before boot entries (suc j)) next.pid.0 fd ≡ Ok (c, client) → is_dgram client.kind ≡ false →
    look_up (before boot entries (suc j)) client.kind addr ≡ Ok (d, t) → next.reply ≢ Reply.Err Errno.EAGAIN
