-- When a send of a datagram, or one with a control buffer, has to wait (send(2), sendmsg(2), write(2); unix(7), SOCK_DGRAM, SCM_RIGHTS and
-- SCM_CREDENTIALS).
use Rattle.std.specs.Prelude.{◌≡◌, ◌≢◌, ◌↔◌, ℕ, ◌+◌, ◌<◌, ◌≤◌, true, false, List, [], length, Option, Some, None, Ok}
use Rattle.std.specs.List.{slice_get}
use Rattle.ux_model.specs.Types.{Errno, Fd, Addr, MsgFlags, Request, Reply, Entry}
use Rattle.ux_model.specs.Flags.{are_send_flags}
use Rattle.ux_model.specs.Limits.{record_bytes_limit}
use Rattle.ux_model.specs.Control.{Control}
use Rattle.ux_model.specs.ControlReading.{control_in}
use Rattle.ux_model.specs.Socket.{Socket, is_dgram, takes_from, has_room}
use Rattle.ux_model.specs.Process.{Process}
use Rattle.ux_model.specs.State.{State, process_at, socket_at, table_of}
use Rattle.ux_model.specs.Flight.{in_flight}
use Rattle.ux_model.specs.Outcome.{find_socket}
use Rattle.ux_model.specs.Sending.{descriptions_behind, is_sendable_addr, is_sendable_control, sender_cred_refusal}
use Rattle.ux_model.specs.History.{IsLegal}
use Rattle.ux_model.specs.Pedigree.{before}
use Rattle.ux_laws.specs.Talking.{socket_through, named_target}
use Rattle.ux_laws.specs.Waits.{AwaitsRoom}
use Rattle.ux_laws.specs.Progress.{may_go}

-- ---- datagrams

-- Where socket d, which is s, sends to by this address, or by its association where none is given, is a socket that takes its datagrams,
-- and whose queue has no room; and neither is shut down there.
pub record AwaitsTarget (S : State) (d : ℕ) (s : Socket) (addr : Option Addr) : Type 0 where
  pub number : ℕ
  pub target : Socket
  pub to : named_target S s addr ≡ Some number
  pub there : socket_at S number ≡ Some target
  pub takes : takes_from d target.phase ≡ true
  pub full : has_room target ≡ false
  pub writes : s.write_shut ≡ false
  pub reads : target.read_shut ≡ false

-- A plain send of a datagram that isn't too long has to wait exactly then,
abbrev pub DatagramsWaitWhile : Type 0
DatagramsWaitWhile = (boot : State) (entries : List Entry) (j d : ℕ) (e : Entry) (fd : Fd) (addr : Option Addr) (bytes : List ℕ)
    (flags : MsgFlags) (s : Socket) → IsLegal boot entries → slice_get entries j ≡ Some e →
    e.request ≡ Request.SendMsg fd addr bytes [] flags → are_send_flags flags ≡ true → is_sendable_addr addr ≡ true →
    length bytes ≤ record_bytes_limit → find_socket (before boot entries j) e.pid.0 fd ≡ Ok (d, s) → is_dgram s.kind ≡ true →
    (e.reply ≡ Reply.Err Errno.EAGAIN) ↔ AwaitsTarget (before boot entries j) d s addr

-- and so has a write, which goes where the socket is associated.
abbrev pub DatagramWritesWaitWhile : Type 0
DatagramWritesWaitWhile = (boot : State) (entries : List Entry) (j d : ℕ) (e : Entry) (fd : Fd) (bytes : List ℕ) (s : Socket) →
    IsLegal boot entries → slice_get entries j ≡ Some e → e.request ≡ Request.Write fd bytes → length bytes ≤ record_bytes_limit →
    socket_through (before boot entries j) e.pid.0 e.request ≡ Some (d, s) → is_dgram s.kind ≡ true →
    (e.reply ≡ Reply.Err Errno.EAGAIN) ↔ AwaitsTarget (before boot entries j) d s None

-- ---- with a control buffer

-- Nothing that is asked of a send before any queue is looked at refuses this one of process p through socket s:
pub record IsInOrder (S : State) (p : ℕ) (s : Socket) (addr : Option Addr) (bytes control : List ℕ) (flags : MsgFlags) : Type 0 where
  -- its flags are ones that a send takes,
  pub known : are_send_flags flags ≡ true
  pub process : Process
  pub caller : process_at S p ≡ Some process
  -- the control buffer spells something, with few rights, and on a stream a byte for them to go with,
  pub said : Control
  pub spelled : control_in control ≡ Some said
  pub sendable : is_sendable_control s.kind bytes said ≡ true
  -- all these descriptors are open,
  pub rights : List ℕ
  pub opened : descriptions_behind (table_of S p) said.rights ≡ Some rights
  -- it may tell the credentials,
  pub may_tell : sender_cred_refusal S p process said.cred ≡ None
  -- the address is one to send to,
  pub address : is_sendable_addr addr ≡ true
  -- and unless the process is privileged, its user has few enough rights in flight for these.
  pub few_in_flight : process.privileged ≡ false → 0 < length rights → in_flight S process.uid + length rights ≤ length process.table

-- The queue that it would go to has no room: the peer's, where it gives no address and may go, or the target's, where it isn't too long.
pub data FindsFull (S : State) (d : ℕ) (s : Socket) (addr : Option Addr) (bytes : List ℕ) : Type 0 where
  at_peer : is_dgram s.kind ≡ false → addr ≡ None → (full : AwaitsRoom S s) → may_go full.other.kind bytes ≡ true →
      FindsFull S d s addr bytes
  at_target : is_dgram s.kind ≡ true → AwaitsTarget S d s addr → length bytes ≤ record_bytes_limit → FindsFull S d s addr bytes

-- A send with a control buffer, unless memory runs out for that, has to wait exactly where it is in order and finds that queue full.
abbrev pub MessagesWaitWhile : Type 0
MessagesWaitWhile = (boot : State) (entries : List Entry) (j d : ℕ) (e : Entry) (fd : Fd) (addr : Option Addr) (bytes control : List ℕ)
    (flags : MsgFlags) (s : Socket) → IsLegal boot entries → slice_get entries j ≡ Some e →
    e.request ≡ Request.SendMsg fd addr bytes control flags → find_socket (before boot entries j) e.pid.0 fd ≡ Ok (d, s) →
    e.reply ≢ Reply.Err Errno.ENOMEM → (e.reply ≡ Reply.Err Errno.EAGAIN)
    ↔ (IsInOrder (before boot entries j) e.pid.0 s addr bytes control flags × FindsFull (before boot entries j) d s addr bytes)
