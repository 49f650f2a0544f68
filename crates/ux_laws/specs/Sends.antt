-- What a send takes and leaves at its target, and why one is refused whose peer is gone or shut down (send(2), write(2), shutdown(2);
-- unix(7), EPIPE; POSIX.1-2017, send and write).
use Rattle.std.specs.Prelude.{◌≡◌, ◌≢◌, ℕ, suc, ◌<◌, min, ◌||◌, true, false, List, [], ◌∷◌, ◌++◌, length, take, Option, Some, None}
use Rattle.std.specs.List.{slice_get}
use Rattle.ux_model.specs.Types.{Errno, Fd, Addr, MsgFlags, Request, Reply, Entry}
use Rattle.ux_model.specs.Flags.{are_send_flags}
use Rattle.ux_model.specs.Message.{Message}
use Rattle.ux_model.specs.Control.{Control}
use Rattle.ux_model.specs.ControlReading.{control_in}
use Rattle.ux_model.specs.Socket.{Socket, is_stream, is_dgram, peer_of, stream_room}
use Rattle.ux_model.specs.Process.{Process}
use Rattle.ux_model.specs.State.{State, process_at, socket_at, table_of}
use Rattle.ux_model.specs.Sending.{descriptions_behind, is_sendable_addr, is_sendable_control, sender_cred_refusal}
use Rattle.ux_model.specs.History.{IsLegal}
use Rattle.ux_model.specs.Pedigree.{before}
use Rattle.ux_laws.specs.Talking.{offered_bytes, socket_through, destination}
use Rattle.ux_laws.specs.Ends.{HasEnded}

-- ---- what is taken

-- One more message waits, behind all others: that of the call with this number, with these bytes.
pub record IsQueuedBehind (old new : List Message) (call : ℕ) (bytes : List ℕ) : Type 0 where
  pub message : Message
  pub behind : new ≡ old ++ message ∷ []
  pub tagged : message.tag ≡ call
  pub holds : message.bytes ≡ bytes

-- So it does at what is left of a socket that had this queue, if that is there.
abbrev pub Queues : List Message → Option Socket → ℕ → List ℕ → Type 0
Queues old left call bytes = (t : Socket) → left ≡ Some t → IsQueuedBehind old t.queue call bytes

-- A call offers these bytes, is answered n, and finds and leaves this at its target.
pub data IsTaken (found : Socket) (left : Option Socket) (call n : ℕ) (bytes : List ℕ) : Type 0 where
  -- A datagram or a record goes whole.
  whole : is_stream found.kind ≡ false → n ≡ length bytes → Queues found.queue left call bytes → IsTaken found left call n bytes
  -- Of a stream's bytes go as many as there is room for, at least one.
  first : is_stream found.kind ≡ true → 0 < n → n ≡ min (stream_room found) (length bytes) →
      Queues found.queue left call (take n bytes) → IsTaken found left call n bytes
  -- Where none is offered to a stream nothing changes.
  none : is_stream found.kind ≡ true → bytes ≡ [] → n ≡ 0 → ((t : Socket) → left ≡ Some t → t.queue ≡ found.queue) →
      IsTaken found left call n bytes

-- Call j was answered n: so it goes to a socket that is there, and this is what that took.
pub record IsSent (boot : State) (entries : List Entry) (j n : ℕ) (e : Entry) : Type 0 where
  pub number : ℕ
  pub target : Socket
  pub to : destination (before boot entries j) e.pid.0 e.request ≡ Some number
  pub there : socket_at (before boot entries j) number ≡ Some target
  pub takes : IsTaken target (socket_at (before boot entries (suc j)) number) j n (offered_bytes e.request)

-- A send or a write through a socket that is answered a count took so many bytes.
abbrev pub SendsCount : Type 0
SendsCount = (boot : State) (entries : List Entry) (j n d : ℕ) (e : Entry) (s : Socket) → IsLegal boot entries →
    slice_get entries j ≡ Some e → socket_through (before boot entries j) e.pid.0 e.request ≡ Some (d, s) → e.reply ≡ Reply.Count n →
    IsSent boot entries j n e

-- ---- where nothing can go

-- Nothing can be sent through socket d, which is s: its peer is gone, or it is shut down for writing, or its peer for reading.
pub data IsCutOff (S : State) (d : ℕ) (s : Socket) : Type 0 where
  gone : HasEnded S d s → IsCutOff S d s
  shut : (peer : ℕ) (other : Socket) → is_dgram s.kind ≡ false → peer_of s.phase ≡ Some peer → socket_at S peer ≡ Some other →
      (s.write_shut || other.read_shut) ≡ true → IsCutOff S d s

-- So a write is answered EPIPE.
abbrev pub WritesAreCutOff : Type 0
WritesAreCutOff = (boot : State) (entries : List Entry) (j d : ℕ) (e : Entry) (fd : Fd) (bytes : List ℕ) (s : Socket) →
    IsLegal boot entries → slice_get entries j ≡ Some e → e.request ≡ Request.Write fd bytes →
    socket_through (before boot entries j) e.pid.0 e.request ≡ Some (d, s) → IsCutOff (before boot entries j) d s →
    e.reply ≡ Reply.Err Errno.EPIPE

-- What process p is answered to a send of these bytes through such a socket, s. In this order:
pub data IsBroken (S : State) (p : ℕ) (s : Socket) (addr : Option Addr) (bytes control : List ℕ) (flags : MsgFlags) (reply : Reply) : Type 0
  where
    -- a flag that no send takes
    by_flags : are_send_flags flags ≡ false → reply ≡ Reply.Err Errno.EINVAL → IsBroken S p s addr bytes control flags reply
    -- a control buffer that spells nothing, too many rights, or rights without a byte to go with on a stream
    by_control : control_in control ≡ None → reply ≡ Reply.Err Errno.EINVAL → IsBroken S p s addr bytes control flags reply
    by_rights : (c : Control) → control_in control ≡ Some c → is_sendable_control s.kind bytes c ≡ false →
        reply ≡ Reply.Err Errno.EINVAL → IsBroken S p s addr bytes control flags reply
    -- a number that isn't open, or credentials that it may not tell
    by_number : (c : Control) → control_in control ≡ Some c → descriptions_behind (table_of S p) c.rights ≡ None →
        reply ≡ Reply.Err Errno.EBADF → IsBroken S p s addr bytes control flags reply
    by_cred : (c : Control) (P : Process) (error : Errno) → control_in control ≡ Some c → process_at S p ≡ Some P →
        sender_cred_refusal S p P c.cred ≡ Some error → reply ≡ Reply.Err error → IsBroken S p s addr bytes control flags reply
    -- an address, which a connected socket doesn't take
    by_addr : is_sendable_addr addr ≡ false → reply ≡ Reply.Err Errno.EINVAL → IsBroken S p s addr bytes control flags reply
    addressed : addr ≢ None → reply ≡ Reply.Err Errno.EISCONN → IsBroken S p s addr bytes control flags reply
    -- else the broken pipe, or, in place of any of these but the first, want of memory for the control buffer
    broken : addr ≡ None → reply ≡ Reply.Err Errno.EPIPE → IsBroken S p s addr bytes control flags reply
    lacking : control ≢ [] → reply ≡ Reply.Err Errno.ENOMEM → IsBroken S p s addr bytes control flags reply

abbrev pub SendsAreRefused : Type 0
SendsAreRefused = (boot : State) (entries : List Entry) (j d : ℕ) (e : Entry) (fd : Fd) (addr : Option Addr) (bytes control : List ℕ)
    (flags : MsgFlags) (s : Socket) → IsLegal boot entries → slice_get entries j ≡ Some e →
    e.request ≡ Request.SendMsg fd addr bytes control flags → socket_through (before boot entries j) e.pid.0 e.request ≡ Some (d, s) →
    IsCutOff (before boot entries j) d s → IsBroken (before boot entries j) e.pid.0 s addr bytes control flags e.reply

-- So a plain send, without a control buffer and an address, is answered EPIPE.
abbrev pub SendsBreak : Type 0
SendsBreak = (boot : State) (entries : List Entry) (j d : ℕ) (e : Entry) (fd : Fd) (bytes : List ℕ) (flags : MsgFlags) (s : Socket) →
    IsLegal boot entries → slice_get entries j ≡ Some e → e.request ≡ Request.SendMsg fd None bytes [] flags →
    are_send_flags flags ≡ true → socket_through (before boot entries j) e.pid.0 e.request ≡ Some (d, s) →
    IsCutOff (before boot entries j) d s → e.reply ≡ Reply.Err Errno.EPIPE
