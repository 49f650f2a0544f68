-- What the fields of a call are.
use Rattle.std.specs.Prelude.{◌≡◌, ℕ, ℤ, Bool, List, [], ◌∷◌, Option}
use Rattle.ux_types.specs.declared.Fd.{Fd}
use Rattle.ux_types.specs.declared.Name.{Name}
use Rattle.ux_types.specs.declared.Bytes.{Bytes}
use Rattle.ux_types.specs.declared.Addr.{Addr}
use Rattle.ux_types.specs.declared.Mode.{Mode}
use Rattle.ux_types.specs.declared.Whence.{Whence}
use Rattle.ux_types.specs.declared.SockType.{SockType}
use Rattle.ux_types.specs.declared.SockOpt.{SockOpt}
use Rattle.ux_types.specs.declared.OpenFlags.{OpenFlags}
use Rattle.ux_types.specs.declared.MsgFlags.{MsgFlags}
use Rattle.ux_types.specs.declared.PollFds.{PollFds}
use Rattle.ux_types.specs.declared.Request.{Request}
use Rattle.ux_fields.specs.declared.call_word.CallWord.{CallWord}
use Rattle.ux_fields.specs.declared.forms.FieldKind.{FieldKind}
use Rattle.ux_fields.specs.Forms.{request_word, kinds}

-- what a field of this kind holds
abbrev pub Value : FieldKind → Type 0
Value FieldKind.Fd = Fd
Value FieldKind.Number = ℕ
Value FieldKind.Size = ℕ
Value FieldKind.Space = ℕ
Value FieldKind.Value = ℕ
Value FieldKind.Offset = ℤ
Value FieldKind.Backlog = ℤ
Value FieldKind.Path = Name
Value FieldKind.Bytes = Bytes
Value FieldKind.Addr = Addr
Value FieldKind.Target = Option Addr
Value FieldKind.Mode = Mode
Value FieldKind.Whence = Whence
Value FieldKind.SockType = SockType
Value FieldKind.SockOpt = SockOpt
Value FieldKind.OpenFlags = OpenFlags
Value FieldKind.CounterFlags = Bool × OpenFlags
Value FieldKind.MsgFlags = MsgFlags
Value FieldKind.Control = Bytes
Value FieldKind.PollFds = PollFds
Value FieldKind.Waits = Bool

-- a value for each of these kinds, in order
abbrev pub Row : List FieldKind → Type 0
Row [] = Unit {0}
Row (kind ∷ kinds) = Value kind × Row kinds

-- the fields of a call
abbrev pub row_of : (r : Request) → Row (kinds (request_word r))
row_of (Request.Open path mode flags) = (path, (mode, (flags, tt)))
row_of (Request.Create path mode flags) = (path, (mode, (flags, tt)))
row_of (Request.MemFd flags) = (flags, tt)
row_of (Request.EventFd value semaphore flags) = (value, ((semaphore, flags), tt))
row_of (Request.Pipe flags) = (flags, tt)
row_of (Request.Read fd n) = (fd, (n, tt))
row_of (Request.Write fd bytes) = (fd, (bytes, tt))
row_of (Request.Lseek fd offset whence) = (fd, (offset, (whence, tt)))
row_of (Request.Dup fd) = (fd, tt)
row_of (Request.Dup2 fd to) = (fd, (to, tt))
row_of (Request.DupFrom fd minimum) = (fd, (minimum, tt))
row_of (Request.GetFlags fd) = (fd, tt)
row_of (Request.SetFlags fd flags) = (fd, (flags, tt))
row_of (Request.InQueue fd) = (fd, tt)
row_of (Request.OutQueue fd) = (fd, tt)
row_of (Request.Close fd) = (fd, tt)
row_of (Request.Unlink path) = (path, tt)
row_of (Request.Socket kind flags) = (kind, (flags, tt))
row_of (Request.SocketPair kind flags) = (kind, (flags, tt))
row_of (Request.Bind fd addr) = (fd, (addr, tt))
row_of (Request.Listen fd backlog) = (fd, (backlog, tt))
row_of (Request.Connect fd addr) = (fd, (addr, tt))
row_of (Request.Accept fd flags) = (fd, (flags, tt))
row_of (Request.Shutdown fd how) = (fd, (how, tt))
row_of (Request.GetOpt fd opt) = (fd, (opt, tt))
row_of (Request.SetOpt fd opt value) = (fd, (opt, (value, tt)))
row_of (Request.GetSockName fd) = (fd, tt)
row_of (Request.GetPeerName fd) = (fd, tt)
row_of (Request.SendMsg fd addr bytes control flags) = (fd, (addr, (bytes, (control, (flags, tt)))))
row_of (Request.RecvMsg fd n space flags) = (fd, (n, (space, (flags, tt))))
row_of (Request.Poll fd) = (fd, tt)
row_of (Request.PollMany fds waits) = (fds, (waits, tt))
row_of (Request.SetIds uid gid) = (uid, (gid, tt))
row_of Request.Fork = tt
row_of Request.Exec = tt
row_of Request.Exit = tt
row_of Request.Off = tt

-- the call of this word with these fields
abbrev pub request_of : (word : CallWord) → Row (kinds word) → Request
request_of CallWord.Open x = Request.Open x.0 x.1.0 x.1.1.0
request_of CallWord.Create x = Request.Create x.0 x.1.0 x.1.1.0
request_of CallWord.MemFd x = Request.MemFd x.0
request_of CallWord.EventFd x = Request.EventFd x.0 x.1.0.0 x.1.0.1
request_of CallWord.Pipe x = Request.Pipe x.0
request_of CallWord.Read x = Request.Read x.0 x.1.0
request_of CallWord.Write x = Request.Write x.0 x.1.0
request_of CallWord.Lseek x = Request.Lseek x.0 x.1.0 x.1.1.0
request_of CallWord.Dup x = Request.Dup x.0
request_of CallWord.Dup2 x = Request.Dup2 x.0 x.1.0
request_of CallWord.DupFrom x = Request.DupFrom x.0 x.1.0
request_of CallWord.GetFlags x = Request.GetFlags x.0
request_of CallWord.Flags x = Request.SetFlags x.0 x.1.0
request_of CallWord.Inq x = Request.InQueue x.0
request_of CallWord.Outq x = Request.OutQueue x.0
request_of CallWord.Close x = Request.Close x.0
request_of CallWord.Unlink x = Request.Unlink x.0
request_of CallWord.Socket x = Request.Socket x.0 x.1.0
request_of CallWord.Pair x = Request.SocketPair x.0 x.1.0
request_of CallWord.Bind x = Request.Bind x.0 x.1.0
request_of CallWord.Listen x = Request.Listen x.0 x.1.0
request_of CallWord.Connect x = Request.Connect x.0 x.1.0
request_of CallWord.Accept x = Request.Accept x.0 x.1.0
request_of CallWord.Shut x = Request.Shutdown x.0 x.1.0
request_of CallWord.GetOpt x = Request.GetOpt x.0 x.1.0
request_of CallWord.SetOpt x = Request.SetOpt x.0 x.1.0 x.1.1.0
request_of CallWord.SockName x = Request.GetSockName x.0
request_of CallWord.PeerName x = Request.GetPeerName x.0
request_of CallWord.Send x = Request.SendMsg x.0 x.1.0 x.1.1.0 x.1.1.1.0 x.1.1.1.1.0
request_of CallWord.Recv x = Request.RecvMsg x.0 x.1.0 x.1.1.0 x.1.1.1.0
request_of CallWord.Poll x = Request.Poll x.0
request_of CallWord.Polls x = Request.PollMany x.0 x.1.0
request_of CallWord.SetIds x = Request.SetIds x.0 x.1.0
request_of CallWord.Fork x = Request.Fork
request_of CallWord.Exec x = Request.Exec
request_of CallWord.Exit x = Request.Exit
request_of CallWord.Off x = Request.Off

-- a value of some kind
pub data FieldValue : Type 0 where
  fd_field : (it : Fd) → FieldValue
  number_field : (it : ℕ) → FieldValue
  size_field : (it : ℕ) → FieldValue
  space_field : (it : ℕ) → FieldValue
  value_field : (it : ℕ) → FieldValue
  offset_field : (it : ℤ) → FieldValue
  backlog_field : (it : ℤ) → FieldValue
  path_field : (it : Name) → FieldValue
  bytes_field : (it : Bytes) → FieldValue
  addr_field : (it : Addr) → FieldValue
  target_field : (it : Option Addr) → FieldValue
  mode_field : (it : Mode) → FieldValue
  whence_field : (it : Whence) → FieldValue
  type_field : (it : SockType) → FieldValue
  option_field : (it : SockOpt) → FieldValue
  open_flags_field : (it : OpenFlags) → FieldValue
  counter_flags_field : (it : Bool × OpenFlags) → FieldValue
  msg_flags_field : (it : MsgFlags) → FieldValue
  control_field : (it : Bytes) → FieldValue
  poll_fds_field : (it : PollFds) → FieldValue
  waits_field : (it : Bool) → FieldValue

abbrev pub valued : (kind : FieldKind) → Value kind → FieldValue
valued FieldKind.Fd it = fd_field it
valued FieldKind.Number it = number_field it
valued FieldKind.Size it = size_field it
valued FieldKind.Space it = space_field it
valued FieldKind.Value it = value_field it
valued FieldKind.Offset it = offset_field it
valued FieldKind.Backlog it = backlog_field it
valued FieldKind.Path it = path_field it
valued FieldKind.Bytes it = bytes_field it
valued FieldKind.Addr it = addr_field it
valued FieldKind.Target it = target_field it
valued FieldKind.Mode it = mode_field it
valued FieldKind.Whence it = whence_field it
valued FieldKind.SockType it = type_field it
valued FieldKind.SockOpt it = option_field it
valued FieldKind.OpenFlags it = open_flags_field it
valued FieldKind.CounterFlags it = counter_flags_field it
valued FieldKind.MsgFlags it = msg_flags_field it
valued FieldKind.Control it = control_field it
valued FieldKind.PollFds it = poll_fds_field it
valued FieldKind.Waits it = waits_field it

-- the values of a row, each with its kind
abbrev pub fields_in : (kinds : List FieldKind) → Row kinds → List FieldValue
fields_in [] row = []
fields_in (kind ∷ kinds) row = valued kind row.0 ∷ fields_in kinds row.1

-- the fields of a call, each with its kind
abbrev pub fields_of : Request → List FieldValue
fields_of Request.Off = []
fields_of r = fields_in (kinds (request_word r)) (row_of r)

-- ---- laws

-- the word and the fields of a call make that call
abbrev pub CallsAreMadeAgain : Type 0
CallsAreMadeAgain = (r : Request) → request_of (request_word r) (row_of r) ≡ r

-- what a word and fields make has this word and these fields
abbrev pub FieldsAreKept : Type 0
FieldsAreKept = (word : CallWord) (row : Row (kinds word)) →
    (request_word (request_of word row) ≡ word) × (fields_of (request_of word row) ≡ fields_in (kinds word) row)
