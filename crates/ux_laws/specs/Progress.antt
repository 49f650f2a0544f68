-- When a call that may wait has to, and when it is answered at once (recv(2), read(2), accept(2), connect(2), send(2), write(2);
-- shutdown(2)).
use Rattle.std.specs.Prelude.{◌≡◌, ◌≢◌, ◌⊎◌, ◌↔◌, ℕ, suc, ◌<◌, ◌==◌, ◌&&◌, nat_le, not, Bool, true, false, if◌then◌else◌}
use Rattle.std.specs.Prelude.{List, [], length, Some, None, Ok}
use Rattle.std.specs.List.{slice_get}
use Rattle.ux_model.specs.Types.{Errno, Fd, Addr, SockType, Mode, OpenFlags, MsgFlags, Request, Reply, Entry}
use Rattle.ux_model.specs.Flags.{are_receive_flags, are_send_flags, can_read, can_write}
use Rattle.ux_model.specs.Limits.{record_bytes_limit}
use Rattle.ux_model.specs.Names.{is_valid_addr, is_unnamed_addr}
use Rattle.ux_model.specs.Socket.{Socket, is_stream, is_dgram, peer_of, pending_ends}
use Rattle.ux_model.specs.Process.{lowest_free}
use Rattle.ux_model.specs.State.{State, description_at, socket_at, table_of}
use Rattle.ux_model.specs.Outcome.{find_socket}
use Rattle.ux_model.specs.Binding.{look_up}
use Rattle.ux_model.specs.Connecting.{listener_of}
use Rattle.ux_model.specs.ReadyCalls.{moves_data}
use Rattle.ux_model.specs.History.{IsLegal}
use Rattle.ux_model.specs.Pedigree.{before}
use Rattle.ux_laws.specs.Talking.{socket_through, sends_to}
use Rattle.ux_laws.specs.Credentials.{socket_behind}
use Rattle.ux_laws.specs.Inputs.{IsInputOver}
use Rattle.ux_laws.specs.Waits.{IsWaiting, AwaitsEnds, AwaitsRoom, FindsNoPlace}

-- ---- recv(2) and read(2), at sockets

-- A receive has to wait exactly while nothing is there. One of no bytes never has to at a stream.
abbrev pub ReceivesWaitWhile : Type 0
ReceivesWaitWhile = (boot : State) (entries : List Entry) (j n space d : ℕ) (e : Entry) (fd : Fd) (flags : MsgFlags) (s : Socket) →
    IsLegal boot entries → slice_get entries j ≡ Some e → e.request ≡ Request.RecvMsg fd n space flags → are_receive_flags flags ≡ true →
    (is_stream s.kind && (n == 0)) ≡ false → socket_through (before boot entries j) e.pid.0 e.request ≡ Some (d, s) →
    (e.reply ≡ Reply.Err Errno.EAGAIN) ↔ IsWaiting (before boot entries j) d s

-- So has a read.
abbrev pub ReadsWaitWhile : Type 0
ReadsWaitWhile = (boot : State) (entries : List Entry) (j n d : ℕ) (e : Entry) (fd : Fd) (s : Socket) → IsLegal boot entries →
    slice_get entries j ≡ Some e → e.request ≡ Request.Read fd n → (is_stream s.kind && (n == 0)) ≡ false →
    socket_through (before boot entries j) e.pid.0 e.request ≡ Some (d, s) →
    (e.reply ≡ Reply.Err Errno.EAGAIN) ↔ IsWaiting (before boot entries j) d s

-- Something is there at socket s: a message, or a shutdown for reading; or, where it is connected, a pending ECONNRESET, or the end of input.
pub data HasInput (S : State) (s : Socket) : Type 0 where
  unread : s.queue ≢ [] → HasInput S s
  shut : s.read_shut ≡ true → HasInput S s
  reset : is_dgram s.kind ≡ false → s.reset ≡ true → HasInput S s
  over : is_dgram s.kind ≡ false → IsInputOver S s → HasInput S s

-- At a datagram socket, or a connected one, something is there, or a receive has to wait, and never both.
pub record IsEither (S : State) (d : ℕ) (s : Socket) : Type 0 where
  pub one : HasInput S s ⊎ IsWaiting S d s
  pub apart : HasInput S s → IsWaiting S d s → ⊥

abbrev pub InputOrWait : Type 0
InputOrWait = (boot : State) (entries : List Entry) (j d : ℕ) (s : Socket) → IsLegal boot entries →
    socket_at (before boot entries j) d ≡ Some s → moves_data s ≡ true → IsEither (before boot entries j) d s

-- What ends the input of socket d, which is s, by a call from S to T.
pub data EndsInput (S : State) (e : Entry) (d : ℕ) (s : Socket) (T : State) : Type 0 where
  -- a shutdown for reading, or of its peer for writing
  by_shutdown : (fd : Fd) (how : Mode) → e.request ≡ Request.Shutdown fd how → e.reply ≡ Reply.Ok → can_read how ≡ true →
      socket_behind S e.pid.0 fd ≡ Some d → EndsInput S e d s T
  by_peer : (peer : ℕ) (fd : Fd) (how : Mode) → is_dgram s.kind ≡ false → peer_of s.phase ≡ Some peer →
      e.request ≡ Request.Shutdown fd how → e.reply ≡ Reply.Ok → can_write how ≡ true → socket_behind S e.pid.0 fd ≡ Some peer →
      EndsInput S e d s T
  -- one by which the peer is freed
  by_loss : (peer : ℕ) → is_dgram s.kind ≡ false → peer_of s.phase ≡ Some peer → description_at T peer ≡ None → EndsInput S e d s T

-- What brings something there.
pub data BringsInput (S : State) (e : Entry) (d : ℕ) (s : Socket) (T : State) : Type 0 where
  -- a send of some bytes, or of a datagram or a record
  by_send : (n : ℕ) → sends_to S d e.pid.0 e.request ≡ true → e.reply ≡ Reply.Count n → (0 < n) ⊎ (is_stream s.kind ≡ false) →
      BringsInput S e d s T
  -- the end of input
  by_end : EndsInput S e d s T → BringsInput S e d s T

-- Then it is there.
abbrev pub InputsCome : Type 0
InputsCome = (boot : State) (entries : List Entry) (j d : ℕ) (e : Entry) (s t : Socket) → IsLegal boot entries →
    slice_get entries j ≡ Some e → socket_at (before boot entries j) d ≡ Some s →
    BringsInput (before boot entries j) e d s (before boot entries (suc j)) → socket_at (before boot entries (suc j)) d ≡ Some t →
    HasInput (before boot entries (suc j)) t

-- ---- accept(2)

-- While a number is free, an accept has to wait exactly while no end waits at the listener.
abbrev pub AcceptsWaitWhile : Type 0
AcceptsWaitWhile = (boot : State) (entries : List Entry) (j d : ℕ) (e : Entry) (fd : Fd) (flags : OpenFlags) (s : Socket) →
    IsLegal boot entries → slice_get entries j ≡ Some e → e.request ≡ Request.Accept fd flags →
    find_socket (before boot entries j) e.pid.0 fd ≡ Ok (d, s) → is_dgram s.kind ≡ false →
    lowest_free (table_of (before boot entries j) e.pid.0) ≢ None → (e.reply ≡ Reply.Err Errno.EAGAIN) ↔ AwaitsEnds s

-- A connect of a stream or seqpacket socket that is answered 0 brings one to the listener that its address leads to.
abbrev pub EndsCome : Type 0
EndsCome = (boot : State) (entries : List Entry) (j c d : ℕ) (e : Entry) (fd : Fd) (addr : Addr) (s listener t : Socket) →
    IsLegal boot entries → slice_get entries j ≡ Some e → e.request ≡ Request.Connect fd addr → e.reply ≡ Reply.Ok →
    find_socket (before boot entries j) e.pid.0 fd ≡ Ok (c, s) → is_dgram s.kind ≡ false →
    look_up (before boot entries j) s.kind addr ≡ Ok (d, listener) → socket_at (before boot entries (suc j)) d ≡ Some t →
    pending_ends t.phase ≢ []

-- ---- connect(2), of stream and seqpacket sockets

-- A connect of an idle socket by a name has to wait exactly while that leads to a listener whose backlog has no place.
abbrev pub ConnectsWaitWhile : Type 0
ConnectsWaitWhile = (boot : State) (entries : List Entry) (j d : ℕ) (e : Entry) (fd : Fd) (addr : Addr) (s : Socket) →
    IsLegal boot entries → slice_get entries j ≡ Some e → e.request ≡ Request.Connect fd addr →
    find_socket (before boot entries j) e.pid.0 fd ≡ Ok (d, s) → is_dgram s.kind ≡ false → listener_of s.phase ≡ None →
    peer_of s.phase ≡ None → is_valid_addr addr ≡ true → is_unnamed_addr addr ≡ false →
    (e.reply ≡ Reply.Err Errno.EAGAIN) ↔ FindsNoPlace (before boot entries j) s addr

-- ---- send(2) and write(2), of stream and seqpacket sockets

-- Bytes of which a socket of this type takes some wherever it has room: any at a stream, else those of one record.
abbrev pub may_go : SockType → List ℕ → Bool
may_go kind bytes = if is_stream kind then not (length bytes == 0) else nat_le (length bytes) record_bytes_limit

-- Such ones for the peer of socket s.
abbrev pub MayGo : State → Socket → List ℕ → Type 0
MayGo S s bytes = (peer : ℕ) (other : Socket) → peer_of s.phase ≡ Some peer → socket_at S peer ≡ Some other →
    may_go other.kind bytes ≡ true

-- A write of them has to wait exactly while the peer's queue has no room, and nothing is shut down,
abbrev pub WritesWaitWhile : Type 0
WritesWaitWhile = (boot : State) (entries : List Entry) (j d : ℕ) (e : Entry) (fd : Fd) (bytes : List ℕ) (s : Socket) →
    IsLegal boot entries → slice_get entries j ≡ Some e → e.request ≡ Request.Write fd bytes →
    socket_through (before boot entries j) e.pid.0 e.request ≡ Some (d, s) → is_dgram s.kind ≡ false →
    MayGo (before boot entries j) s bytes → (e.reply ≡ Reply.Err Errno.EAGAIN) ↔ AwaitsRoom (before boot entries j) s

-- and a plain send, without a control buffer and an address.
abbrev pub SendsWaitWhile : Type 0
SendsWaitWhile = (boot : State) (entries : List Entry) (j d : ℕ) (e : Entry) (fd : Fd) (bytes : List ℕ) (flags : MsgFlags) (s : Socket) →
    IsLegal boot entries → slice_get entries j ≡ Some e → e.request ≡ Request.SendMsg fd None bytes [] flags →
    are_send_flags flags ≡ true → find_socket (before boot entries j) e.pid.0 fd ≡ Ok (d, s) → is_dgram s.kind ≡ false →
    MayGo (before boot entries j) s bytes → (e.reply ≡ Reply.Err Errno.EAGAIN) ↔ AwaitsRoom (before boot entries j) s
