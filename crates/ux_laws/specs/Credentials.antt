-- Nobody forges credentials (unix(7), SCM_CREDENTIALS and SO_PEERCRED).
use Rattle.std.specs.Prelude.{◌≡◌, ◌⊎◌, ℕ, suc, ◌<◌, Bool, true, false, ℤ, List, ◌∷◌, length, take, Option, Some, None, Ok}
use Rattle.std.specs.List.{slice_get}
use Rattle.ux_model.specs.Types.{Fd, Cred, Addr, SockType, SockOpt, OpenFlags, MsgFlags, Request, Reply, Entry}
use Rattle.ux_model.specs.Message.{Message, queued_bytes}
use Rattle.ux_model.specs.Control.{Control}
use Rattle.ux_model.specs.ControlReading.{control_in}
use Rattle.ux_model.specs.Socket.{Socket, Phase, idle, listening, connected, associated}
use Rattle.ux_model.specs.Process.{Process, own_cred}
use Rattle.ux_model.specs.Delivery.{control_bytes}
use Rattle.ux_model.specs.State.{State, process_at, next_description}
use Rattle.ux_model.specs.Binding.{look_up}
use Rattle.ux_model.specs.Outcome.{find_socket}
use Rattle.ux_model.specs.History.{IsLegal}
use Rattle.ux_model.specs.Pedigree.{before}
use Rattle.ux_laws.specs.Talking.{if_found, socket_through, is_number}

-- ---- what may be sent

abbrev pub cred_of_control : Option Control → Option Cred
cred_of_control None = None
cred_of_control (Some control) = control.cred

-- the credentials that a send gives in its control buffer
abbrev pub given_cred : Request → Option Cred
given_cred (Request.SendMsg fd addr bytes control flags) = cred_of_control (control_in control)
given_cred _ = None

-- the credentials that go with what process p sends: its own, or others that it gives, if it is privileged
pub data MaySend (p : ℕ) (P : Process) (request : Request) (cred : Cred) : Type 0 where
  its_own : cred ≡ own_cred p P → MaySend p P request cred
  others : P.privileged ≡ true → given_cred request ≡ Some cred → MaySend p P request cred

-- the call with number tag sent these, as its process was at that time
pub record SentWith (boot : State) (entries : List Entry) (tag : ℕ) (cred : Cred) : Type 0 where
  pub sending : Entry
  pub process : Process
  pub there : slice_get entries tag ≡ Some sending
  pub sender : process_at (before boot entries tag) sending.pid.0 ≡ Some process
  pub may : MaySend sending.pid.0 process sending.request cred

-- ---- what a receive reports

-- Call j, a receive or a peek that gives these bytes, reports the credentials of the oldest message that waits at its socket.
pub record IsOfSender (boot : State) (entries : List Entry) (j : ℕ) (e : Entry) (bytes control : List ℕ) : Type 0 where
  pub number : ℕ
  pub socket : Socket
  pub oldest : Message
  pub later : List Message
  pub numbers : List ℕ
  pub through : socket_through (before boot entries j) e.pid.0 e.request ≡ Some (number, socket)
  pub waits : socket.queue ≡ oldest ∷ later
  -- and rights behind them
  pub reported : control ≡ control_bytes (Some oldest.cred) numbers
  -- They were sent before.
  pub earlier : oldest.tag < j
  pub sent : SentWith boot entries oldest.tag oldest.cred
  -- And so they were with each other message of which it gives a byte.
  pub each : (k : ℕ) (m : Message) → slice_get socket.queue k ≡ Some m → queued_bytes (take k socket.queue) < length bytes →
      SentWith boot entries m.tag oldest.cred

-- in what it writes to the control buffer, where it writes any
pub data IsHonest (boot : State) (entries : List Entry) (j : ℕ) (e : Entry) (bytes control : List ℕ) : Type 0 where
  no_cred : (numbers : List ℕ) → control ≡ control_bytes None numbers → IsHonest boot entries j e bytes control
  of_sender : IsOfSender boot entries j e bytes control → IsHonest boot entries j e bytes control

-- Credentials that a receive reports are the sender's own at the time of its send, unless it was privileged and gave others.
abbrev pub CredentialsAreTheSenders : Type 0
CredentialsAreTheSenders = (boot : State) (entries : List Entry) (j n space count : ℕ) (e : Entry) (fd : Fd) (asked flags : MsgFlags)
    (bytes control : List ℕ) (from : Option Addr) → IsLegal boot entries → slice_get entries j ≡ Some e →
    e.request ≡ Request.RecvMsg fd n space asked → e.reply ≡ Reply.Received flags count bytes control from →
    IsHonest boot entries j e bytes control

-- ---- what SO_PEERCRED reports

-- the credentials of the process that called listen on a socket
abbrev pub listening_cred : Phase → Option Cred
listening_cred idle = None
listening_cred (listening backlog cred) = Some cred
listening_cred (connected peer) = None
listening_cred (associated target) = None

-- the number of the socket that a descriptor leads to
abbrev pub socket_behind : State → ℕ → Fd → Option ℕ
socket_behind S p fd = elim (if_found (find_socket S p fd)) [ None ↦ None | Some found ↦ Some found.0 ]

-- the call with this number, by a process that has these credentials then
pub record IsCallBy (boot : State) (entries : List Entry) (at : ℕ) (request : Request) (reply : Reply) (cred : Cred) : Type 0 where
  pub call : Entry
  pub process : Process
  pub there : slice_get entries at ≡ Some call
  pub asked : call.request ≡ request
  pub answered : call.reply ≡ reply
  pub caller : process_at (before boot entries at) call.pid.0 ≡ Some process
  pub own : cred ≡ own_cred call.pid.0 process

-- a call of process p is a listen on socket l, and wasn't refused
abbrev pub listens_on : State → ℕ → ℕ → Request → Reply → Bool
listens_on S l p (Request.Listen fd backlog) Reply.Ok = is_number l (socket_behind S p fd)
listens_on S l p _ _ = false

-- a process with these credentials called listen on socket l, as the last before call until
pub record HasListened (boot : State) (entries : List Entry) (l until : ℕ) (cred : Cred) : Type 0 where
  pub at : ℕ
  pub fd : Fd
  pub backlog : ℤ
  pub called : IsCallBy boot entries at (Request.Listen fd backlog) Reply.Ok cred
  pub on : socket_behind (before boot entries at) called.call.pid.0 fd ≡ Some l
  pub earlier : at < until
  pub last : (j : ℕ) (e : Entry) → at < j → j < until → slice_get entries j ≡ Some e →
      listens_on (before boot entries j) l e.pid.0 e.request e.reply ≡ false

-- the client, socket d, was connected to a socket that somebody listened on
pub record IsConnected (boot : State) (entries : List Entry) (d : ℕ) (cred : Cred) : Type 0 where
  pub at : ℕ
  pub fd : Fd
  pub addr : Addr
  pub client : Cred
  pub called : IsCallBy boot entries at (Request.Connect fd addr) Reply.Ok client
  pub on : socket_behind (before boot entries at) called.call.pid.0 fd ≡ Some d
  pub kind : SockType
  pub listener : ℕ
  pub socket : Socket
  pub to : look_up (before boot entries at) kind addr ≡ Ok (listener, socket)
  pub listened : HasListened boot entries listener at cred

-- whose credentials these are, for socket d
pub data IsPeersCred (boot : State) (entries : List Entry) (d : ℕ) (cred : Cred) : Type 0 where
  -- of the process that made the pair
  of_maker : (at : ℕ) (kind : SockType) (flags : OpenFlags) (first second : Fd) →
      IsCallBy boot entries at (Request.SocketPair kind flags) (Reply.Fds first second) cred →
      (d ≡ next_description (before boot entries at)) ⊎ (d ≡ suc (next_description (before boot entries at))) →
      IsPeersCred boot entries d cred
  -- at a server's end, which connect makes, of the process that called that
  of_client : (at : ℕ) (fd : Fd) (addr : Addr) → IsCallBy boot entries at (Request.Connect fd addr) Reply.Ok cred →
      d ≡ next_description (before boot entries at) → IsPeersCred boot entries d cred
  -- at a client, of the process that called listen
  of_listener : IsConnected boot entries d cred → IsPeersCred boot entries d cred

-- so is what a call reports of the socket that it asks about
pub record TellsPeer (boot : State) (entries : List Entry) (j : ℕ) (e : Entry) (fd : Fd) (cred : Cred) : Type 0 where
  pub number : ℕ
  pub on : socket_behind (before boot entries j) e.pid.0 fd ≡ Some number
  pub of : IsPeersCred boot entries number cred

abbrev pub PeersAreTheMakers : Type 0
PeersAreTheMakers = (boot : State) (entries : List Entry) (j : ℕ) (e : Entry) (fd : Fd) (cred : Cred) → IsLegal boot entries →
    slice_get entries j ≡ Some e → e.request ≡ Request.GetOpt fd SockOpt.PeerCred → e.reply ≡ Reply.Cred cred →
    TellsPeer boot entries j e fd cred
