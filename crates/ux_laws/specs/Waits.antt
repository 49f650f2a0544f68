-- What ends a wait to receive, to accept, to connect and to send (recv(2), read(2), accept(2), connect(2), send(2), write(2), shutdown(2)).
use Rattle.std.specs.Prelude.{◌≡◌, ◌≢◌, ◌⊎◌, ℕ, suc, ◌≤◌, true, false, ℤ, List, [], length, Option, Some, None, Ok}
use Rattle.std.specs.List.{slice_get}
use Rattle.ux_model.specs.Types.{Errno, Fd, Addr, SockType, SockOpt, Mode, OpenFlags, MsgFlags, Request, Reply, Entry}
use Rattle.ux_model.specs.Socket.{Socket, is_dgram, pending_ends, peer_of, has_room}
use Rattle.ux_model.specs.State.{State, description_at, socket_at}
use Rattle.ux_model.specs.Outcome.{find_socket}
use Rattle.ux_model.specs.Binding.{look_up}
use Rattle.ux_model.specs.Connecting.{Listener, listener_of}
use Rattle.ux_model.specs.History.{IsLegal}
use Rattle.ux_model.specs.Pedigree.{before}
use Rattle.ux_laws.specs.Talking.{is_peek, socket_through, sends_to, receives_through}
use Rattle.ux_laws.specs.Records.{is_count, is_given}
use Rattle.ux_laws.specs.Credentials.{socket_behind}

-- A receive at socket d, which is s, finds nothing, and its input isn't over.
pub data IsWaiting (S : State) (d : ℕ) (s : Socket) : Type 0 where
  for_peer : (peer : ℕ) (other : Socket) → is_dgram s.kind ≡ false → peer_of s.phase ≡ Some peer → socket_at S peer ≡ Some other →
      s.queue ≡ [] → s.reset ≡ false → s.read_shut ≡ false → other.write_shut ≡ false → IsWaiting S d s
  for_datagram : is_dgram s.kind ≡ true → s.queue ≡ [] → s.read_shut ≡ false → IsWaiting S d s

-- so where one is answered EAGAIN
abbrev pub ReceivesWait : Type 0
ReceivesWait = (boot : State) (entries : List Entry) (j n space d : ℕ) (e : Entry) (fd : Fd) (flags : MsgFlags) (s : Socket) →
    IsLegal boot entries → slice_get entries j ≡ Some e → e.request ≡ Request.RecvMsg fd n space flags →
    socket_through (before boot entries j) e.pid.0 e.request ≡ Some (d, s) → e.reply ≡ Reply.Err Errno.EAGAIN →
    IsWaiting (before boot entries j) d s

abbrev pub ReadsWait : Type 0
ReadsWait = (boot : State) (entries : List Entry) (j n d : ℕ) (e : Entry) (fd : Fd) (s : Socket) → IsLegal boot entries →
    slice_get entries j ≡ Some e → e.request ≡ Request.Read fd n → socket_through (before boot entries j) e.pid.0 e.request ≡ Some (d, s) →
    e.reply ≡ Reply.Err Errno.EAGAIN → IsWaiting (before boot entries j) d s

-- What a call has to be, from S to T, for such a wait to end.
pub data EndsWait (S : State) (e : Entry) (d : ℕ) (s : Socket) (T : State) : Type 0 where
  -- a send to this socket, which went out
  by_send : sends_to S d e.pid.0 e.request ≡ true → is_count e.reply ≡ true → EndsWait S e d s T
  -- a shutdown of it or of its peer, by who has a descriptor that leads there
  by_shutdown : (n : ℕ) (fd : Fd) (how : Mode) → e.request ≡ Request.Shutdown fd how → socket_behind S e.pid.0 fd ≡ Some n →
      (n ≡ d) ⊎ (peer_of s.phase ≡ Some n) → EndsWait S e d s T
  -- one by which the peer is freed
  by_loss : (peer : ℕ) → peer_of s.phase ≡ Some peer → description_at T peer ≡ None → EndsWait S e d s T

-- After any other a receive there would still wait.
abbrev pub WaitsEnd : Type 0
WaitsEnd = (boot : State) (entries : List Entry) (j d : ℕ) (e : Entry) (s t : Socket) → IsLegal boot entries →
    slice_get entries j ≡ Some e → socket_at (before boot entries j) d ≡ Some s → IsWaiting (before boot entries j) d s →
    socket_at (before boot entries (suc j)) d ≡ Some t →
    IsWaiting (before boot entries (suc j)) d t ⊎ EndsWait (before boot entries j) e d s (before boot entries (suc j))

-- ---- accept(2)

-- Socket s listens, and no end waits at it.
pub record AwaitsEnds (s : Socket) : Type 0 where
  pub listens : listener_of s.phase ≢ None
  pub none : pending_ends s.phase ≡ []

-- so where an accept is answered EAGAIN
abbrev pub AcceptsWait : Type 0
AcceptsWait = (boot : State) (entries : List Entry) (j d : ℕ) (e : Entry) (fd : Fd) (flags : OpenFlags) (s : Socket) →
    IsLegal boot entries → slice_get entries j ≡ Some e → e.request ≡ Request.Accept fd flags →
    find_socket (before boot entries j) e.pid.0 fd ≡ Ok (d, s) → e.reply ≡ Reply.Err Errno.EAGAIN → AwaitsEnds s

-- A connect that is answered 0, by an address that leads to socket d.
pub record ConnectsTo (S : State) (e : Entry) (d : ℕ) : Type 0 where
  pub fd : Fd
  pub addr : Addr
  pub kind : SockType
  pub listener : Socket
  pub asked : e.request ≡ Request.Connect fd addr
  pub answered : e.reply ≡ Reply.Ok
  pub led : look_up S kind addr ≡ Ok (d, listener)

-- After any other call no end waits there still.
abbrev pub AcceptWaitsEnd : Type 0
AcceptWaitsEnd = (boot : State) (entries : List Entry) (j d : ℕ) (e : Entry) (s t : Socket) → IsLegal boot entries →
    slice_get entries j ≡ Some e → socket_at (before boot entries j) d ≡ Some s → AwaitsEnds s →
    socket_at (before boot entries (suc j)) d ≡ Some t → AwaitsEnds t ⊎ ConnectsTo (before boot entries j) e d

-- ---- send(2) and write(2), of stream and seqpacket sockets

-- The queue of the peer of socket s has no room, and neither is shut down there.
pub record AwaitsRoom (S : State) (s : Socket) : Type 0 where
  pub peer : ℕ
  pub other : Socket
  pub to : peer_of s.phase ≡ Some peer
  pub there : socket_at S peer ≡ Some other
  pub full : has_room other ≡ false
  pub writes : s.write_shut ≡ false
  pub reads : other.read_shut ≡ false

-- so where one is answered EAGAIN
abbrev pub SendsWait : Type 0
SendsWait = (boot : State) (entries : List Entry) (j d : ℕ) (e : Entry) (fd : Fd) (addr : Option Addr) (bytes control : List ℕ)
    (flags : MsgFlags) (s : Socket) →
    IsLegal boot entries → slice_get entries j ≡ Some e → e.request ≡ Request.SendMsg fd addr bytes control flags →
    find_socket (before boot entries j) e.pid.0 fd ≡ Ok (d, s) → is_dgram s.kind ≡ false → e.reply ≡ Reply.Err Errno.EAGAIN →
    AwaitsRoom (before boot entries j) s

abbrev pub WritesWait : Type 0
WritesWait = (boot : State) (entries : List Entry) (j d : ℕ) (e : Entry) (fd : Fd) (bytes : List ℕ) (s : Socket) →
    IsLegal boot entries → slice_get entries j ≡ Some e → e.request ≡ Request.Write fd bytes →
    socket_through (before boot entries j) e.pid.0 e.request ≡ Some (d, s) → is_dgram s.kind ≡ false → e.reply ≡ Reply.Err Errno.EAGAIN →
    AwaitsRoom (before boot entries j) s

-- What a call has to be, from S to T, for the wait of a sender d, which is s, to end.
pub data GivesRoom (S : State) (e : Entry) (d : ℕ) (s : Socket) (T : State) : Type 0 where
  -- a receive that took something at the peer
  by_receive : (peer : ℕ) → peer_of s.phase ≡ Some peer → receives_through S peer e.pid.0 e.request ≡ true → is_peek e.request ≡ false →
      is_given e.reply ≡ true → GivesRoom S e d s T
  -- a new limit of the peer's queue, by who has a descriptor that leads there
  by_limit : (peer : ℕ) (fd : Fd) (value : ℕ) → peer_of s.phase ≡ Some peer → e.request ≡ Request.SetOpt fd SockOpt.QueueLimit value →
      socket_behind S e.pid.0 fd ≡ Some peer → GivesRoom S e d s T
  -- a shutdown of it or of its peer, likewise
  by_shut : (n : ℕ) (fd : Fd) (how : Mode) → e.request ≡ Request.Shutdown fd how → socket_behind S e.pid.0 fd ≡ Some n →
      (n ≡ d) ⊎ (peer_of s.phase ≡ Some n) → GivesRoom S e d s T
  -- one by which the peer is freed
  by_end : (peer : ℕ) → peer_of s.phase ≡ Some peer → description_at T peer ≡ None → GivesRoom S e d s T

-- After any other the queue is full still.
abbrev pub SendWaitsEnd : Type 0
SendWaitsEnd = (boot : State) (entries : List Entry) (j d : ℕ) (e : Entry) (s t : Socket) → IsLegal boot entries →
    slice_get entries j ≡ Some e → socket_at (before boot entries j) d ≡ Some s → AwaitsRoom (before boot entries j) s →
    socket_at (before boot entries (suc j)) d ≡ Some t →
    AwaitsRoom (before boot entries (suc j)) t ⊎ GivesRoom (before boot entries j) e d s (before boot entries (suc j))

-- ---- connect(2), of stream and seqpacket sockets

-- Socket s listens, and its backlog has no place.
pub record AwaitsPlace (s : Socket) : Type 0 where
  pub kept : Listener
  pub listens : listener_of s.phase ≡ Some kept
  pub full : kept.backlog.limit ≤ length kept.backlog.pending

-- such a one is what the address leads to
pub record FindsNoPlace (S : State) (s : Socket) (addr : Addr) : Type 0 where
  pub number : ℕ
  pub listener : Socket
  pub led : look_up S s.kind addr ≡ Ok (number, listener)
  pub none : AwaitsPlace listener

-- where a connect is answered EAGAIN
abbrev pub ConnectsWait : Type 0
ConnectsWait = (boot : State) (entries : List Entry) (j d : ℕ) (e : Entry) (fd : Fd) (addr : Addr) (s : Socket) → IsLegal boot entries →
    slice_get entries j ≡ Some e → e.request ≡ Request.Connect fd addr → find_socket (before boot entries j) e.pid.0 fd ≡ Ok (d, s) →
    is_dgram s.kind ≡ false → e.reply ≡ Reply.Err Errno.EAGAIN → FindsNoPlace (before boot entries j) s addr

-- What a call has to be for a place to come at listener d, by who has a descriptor that leads there: an accept, or a new listen.
pub data GivesPlace (S : State) (e : Entry) (d : ℕ) : Type 0 where
  by_accept : (fd : Fd) (flags : OpenFlags) (n : Fd) (name : Addr) → e.request ≡ Request.Accept fd flags → e.reply ≡ Reply.Accepted n name →
      socket_behind S e.pid.0 fd ≡ Some d → GivesPlace S e d
  by_listen : (fd : Fd) (backlog : ℤ) → e.request ≡ Request.Listen fd backlog → e.reply ≡ Reply.Ok →
      socket_behind S e.pid.0 fd ≡ Some d → GivesPlace S e d

-- After any other it has none still, as long as it is there.
abbrev pub ConnectWaitsEnd : Type 0
ConnectWaitsEnd = (boot : State) (entries : List Entry) (j d : ℕ) (e : Entry) (s t : Socket) → IsLegal boot entries →
    slice_get entries j ≡ Some e → socket_at (before boot entries j) d ≡ Some s → AwaitsPlace s →
    socket_at (before boot entries (suc j)) d ≡ Some t → AwaitsPlace t ⊎ GivesPlace (before boot entries j) e d
