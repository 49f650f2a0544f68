-- The word and the fields of each call.
use Rattle.std.specs.Prelude.{ℕ, Bool, true, false, List, [], ◌∷◌, map, codes}
use Rattle.ux_types.specs.declared.Request.{Request}
use Rattle.ux_fields.specs.declared.call_word.CallWord.{CallWord}
use Rattle.ux_fields.specs.declared.forms.FieldKind.{FieldKind}

-- the word that names a call, in a script and in a trace
abbrev pub word_text : CallWord → List ℕ
word_text CallWord.Open = codes "open"
word_text CallWord.Create = codes "create"
word_text CallWord.MemFd = codes "memfd"
word_text CallWord.EventFd = codes "eventfd"
word_text CallWord.Pipe = codes "pipe"
word_text CallWord.Read = codes "read"
word_text CallWord.Write = codes "write"
word_text CallWord.Lseek = codes "lseek"
word_text CallWord.Dup = codes "dup"
word_text CallWord.Dup2 = codes "dup2"
word_text CallWord.DupFrom = codes "dupfd"
word_text CallWord.GetFlags = codes "getfl"
word_text CallWord.Flags = codes "flags"
word_text CallWord.Inq = codes "inq"
word_text CallWord.Outq = codes "outq"
word_text CallWord.Close = codes "close"
word_text CallWord.Unlink = codes "unlink"
word_text CallWord.Socket = codes "socket"
word_text CallWord.Pair = codes "pair"
word_text CallWord.Bind = codes "bind"
word_text CallWord.Listen = codes "listen"
word_text CallWord.Connect = codes "connect"
word_text CallWord.Accept = codes "accept"
word_text CallWord.Shut = codes "shut"
word_text CallWord.GetOpt = codes "getopt"
word_text CallWord.SetOpt = codes "setopt"
word_text CallWord.SockName = codes "sockname"
word_text CallWord.PeerName = codes "peername"
word_text CallWord.Send = codes "send"
word_text CallWord.Recv = codes "recv"
word_text CallWord.Poll = codes "poll"
word_text CallWord.Polls = codes "polls"
word_text CallWord.SetIds = codes "setids"
word_text CallWord.Fork = codes "fork"
word_text CallWord.Exec = codes "exec"
word_text CallWord.Exit = codes "exit"
word_text CallWord.Off = codes "off"

abbrev pub request_word : Request → CallWord
request_word (Request.Open path mode flags) = CallWord.Open
request_word (Request.Create path mode flags) = CallWord.Create
request_word (Request.MemFd flags) = CallWord.MemFd
request_word (Request.EventFd value semaphore flags) = CallWord.EventFd
request_word (Request.Pipe flags) = CallWord.Pipe
request_word (Request.Read fd n) = CallWord.Read
request_word (Request.Write fd bytes) = CallWord.Write
request_word (Request.Lseek fd offset whence) = CallWord.Lseek
request_word (Request.Dup fd) = CallWord.Dup
request_word (Request.Dup2 fd to) = CallWord.Dup2
request_word (Request.DupFrom fd minimum) = CallWord.DupFrom
request_word (Request.GetFlags fd) = CallWord.GetFlags
request_word (Request.SetFlags fd flags) = CallWord.Flags
request_word (Request.InQueue fd) = CallWord.Inq
request_word (Request.OutQueue fd) = CallWord.Outq
request_word (Request.Close fd) = CallWord.Close
request_word (Request.Unlink path) = CallWord.Unlink
request_word (Request.Socket kind flags) = CallWord.Socket
request_word (Request.SocketPair kind flags) = CallWord.Pair
request_word (Request.Bind fd addr) = CallWord.Bind
request_word (Request.Listen fd backlog) = CallWord.Listen
request_word (Request.Connect fd addr) = CallWord.Connect
request_word (Request.Accept fd flags) = CallWord.Accept
request_word (Request.Shutdown fd how) = CallWord.Shut
request_word (Request.GetOpt fd opt) = CallWord.GetOpt
request_word (Request.SetOpt fd opt value) = CallWord.SetOpt
request_word (Request.GetSockName fd) = CallWord.SockName
request_word (Request.GetPeerName fd) = CallWord.PeerName
request_word (Request.SendMsg fd addr bytes control flags) = CallWord.Send
request_word (Request.RecvMsg fd n space flags) = CallWord.Recv
request_word (Request.Poll fd) = CallWord.Poll
request_word (Request.PollMany fds waits) = CallWord.Polls
request_word (Request.SetIds uid gid) = CallWord.SetIds
request_word Request.Fork = CallWord.Fork
request_word Request.Exec = CallWord.Exec
request_word Request.Exit = CallWord.Exit
request_word Request.Off = CallWord.Off

-- ---- fields

abbrev fd_form : List ℕ × List ℕ × FieldKind
fd_form = (codes "fd", codes "FD", FieldKind.Fd)

abbrev to_form : List ℕ × List ℕ × FieldKind
to_form = (codes "to", codes "FD", FieldKind.Fd)

abbrev min_form : List ℕ × List ℕ × FieldKind
min_form = (codes "minimum", codes "MIN", FieldKind.Fd)

abbrev uid_form : List ℕ × List ℕ × FieldKind
uid_form = (codes "uid", codes "UID", FieldKind.Number)

abbrev gid_form : List ℕ × List ℕ × FieldKind
gid_form = (codes "gid", codes "GID", FieldKind.Number)

abbrev count_form : List ℕ × List ℕ × FieldKind
count_form = (codes "value", codes "VALUE", FieldKind.Number)

abbrev n_form : List ℕ × List ℕ × FieldKind
n_form = (codes "n", codes "N", FieldKind.Size)

abbrev space_form : List ℕ × List ℕ × FieldKind
space_form = (codes "space", codes "SPACE", FieldKind.Space)

abbrev value_form : List ℕ × List ℕ × FieldKind
value_form = (codes "value", codes "VALUE", FieldKind.Value)

abbrev offset_form : List ℕ × List ℕ × FieldKind
offset_form = (codes "offset", codes "OFFSET", FieldKind.Offset)

abbrev backlog_form : List ℕ × List ℕ × FieldKind
backlog_form = (codes "backlog", codes "BACKLOG", FieldKind.Backlog)

abbrev path_form : List ℕ × List ℕ × FieldKind
path_form = (codes "path", codes "p:NAME", FieldKind.Path)

abbrev bytes_form : List ℕ × List ℕ × FieldKind
bytes_form = (codes "bytes", codes "HEX", FieldKind.Bytes)

abbrev addr_form : List ℕ × List ℕ × FieldKind
addr_form = (codes "addr", codes "ADDR", FieldKind.Addr)

abbrev target_form : List ℕ × List ℕ × FieldKind
target_form = (codes "addr", codes "ADDR", FieldKind.Target)

abbrev mode_form : List ℕ × List ℕ × FieldKind
mode_form = (codes "mode", codes "MODE", FieldKind.Mode)

abbrev how_form : List ℕ × List ℕ × FieldKind
how_form = (codes "how", codes "MODE", FieldKind.Mode)

abbrev whence_form : List ℕ × List ℕ × FieldKind
whence_form = (codes "whence", codes "WHENCE", FieldKind.Whence)

abbrev type_form : List ℕ × List ℕ × FieldKind
type_form = (codes "type", codes "TYPE", FieldKind.SockType)

abbrev opt_form : List ℕ × List ℕ × FieldKind
opt_form = (codes "opt", codes "OPT", FieldKind.SockOpt)

abbrev oflags_form : List ℕ × List ℕ × FieldKind
oflags_form = (codes "flags", codes "OFLAGS", FieldKind.OpenFlags)

abbrev eflags_form : List ℕ × List ℕ × FieldKind
eflags_form = (codes "flags", codes "EFLAGS", FieldKind.CounterFlags)

abbrev mflags_form : List ℕ × List ℕ × FieldKind
mflags_form = (codes "flags", codes "MFLAGS", FieldKind.MsgFlags)

abbrev control_form : List ℕ × List ℕ × FieldKind
control_form = (codes "control", codes "CONTROL", FieldKind.Control)

abbrev fds_form : List ℕ × List ℕ × FieldKind
fds_form = (codes "fds", codes "FDS", FieldKind.PollFds)

abbrev waits_form : List ℕ × List ℕ × FieldKind
waits_form = (codes "waits", codes "WAITS", FieldKind.Waits)

-- the fields of a call in the order of a script's line: the name of each, the sign that stands for it in forms, and its kind
abbrev pub form : CallWord → List (List ℕ × List ℕ × FieldKind)
form CallWord.Open = path_form ∷ mode_form ∷ oflags_form ∷ []
form CallWord.Create = path_form ∷ mode_form ∷ oflags_form ∷ []
form CallWord.MemFd = oflags_form ∷ []
form CallWord.EventFd = count_form ∷ eflags_form ∷ []
form CallWord.Pipe = oflags_form ∷ []
form CallWord.Read = fd_form ∷ n_form ∷ []
form CallWord.Write = fd_form ∷ bytes_form ∷ []
form CallWord.Lseek = fd_form ∷ offset_form ∷ whence_form ∷ []
form CallWord.Dup = fd_form ∷ []
form CallWord.Dup2 = fd_form ∷ to_form ∷ []
form CallWord.DupFrom = fd_form ∷ min_form ∷ []
form CallWord.GetFlags = fd_form ∷ []
form CallWord.Flags = fd_form ∷ oflags_form ∷ []
form CallWord.Inq = fd_form ∷ []
form CallWord.Outq = fd_form ∷ []
form CallWord.Close = fd_form ∷ []
form CallWord.Unlink = path_form ∷ []
form CallWord.Socket = type_form ∷ oflags_form ∷ []
form CallWord.Pair = type_form ∷ oflags_form ∷ []
form CallWord.Bind = fd_form ∷ addr_form ∷ []
form CallWord.Listen = fd_form ∷ backlog_form ∷ []
form CallWord.Connect = fd_form ∷ addr_form ∷ []
form CallWord.Accept = fd_form ∷ oflags_form ∷ []
form CallWord.Shut = fd_form ∷ how_form ∷ []
form CallWord.GetOpt = fd_form ∷ opt_form ∷ []
form CallWord.SetOpt = fd_form ∷ opt_form ∷ value_form ∷ []
form CallWord.SockName = fd_form ∷ []
form CallWord.PeerName = fd_form ∷ []
form CallWord.Send = fd_form ∷ target_form ∷ bytes_form ∷ control_form ∷ mflags_form ∷ []
form CallWord.Recv = fd_form ∷ n_form ∷ space_form ∷ mflags_form ∷ []
form CallWord.Poll = fd_form ∷ []
form CallWord.Polls = fds_form ∷ waits_form ∷ []
form CallWord.SetIds = uid_form ∷ gid_form ∷ []
form CallWord.Fork = []
form CallWord.Exec = []
form CallWord.Exit = []
form CallWord.Off = []

-- the kinds of the fields
abbrev pub kinds : CallWord → List FieldKind
kinds word = map (λ f. f.2) (form word)

-- ---- scripts

-- a call that programs make which run as they are, and scripts of several orders don't have: those that make a file object, fcntl(2) but
-- for F_SETFL and F_SETFD, ioctl(2), and setresuid(2) with setresgid(2)
abbrev pub wants_serial : CallWord → Bool
wants_serial CallWord.Create = true
wants_serial CallWord.MemFd = true
wants_serial CallWord.EventFd = true
wants_serial CallWord.Pipe = true
wants_serial CallWord.DupFrom = true
wants_serial CallWord.GetFlags = true
wants_serial CallWord.Inq = true
wants_serial CallWord.Outq = true
wants_serial CallWord.SetIds = true
wants_serial word = false

-- the words that may stand behind a process's number
abbrev pub script_words : List CallWord
script_words =
    CallWord.Open ∷ CallWord.Create ∷ CallWord.MemFd ∷ CallWord.EventFd ∷ CallWord.Pipe ∷ CallWord.Read ∷ CallWord.Write ∷ CallWord.Lseek
    ∷ CallWord.Dup ∷ CallWord.Dup2 ∷ CallWord.DupFrom ∷ CallWord.GetFlags ∷ CallWord.Flags ∷ CallWord.Inq ∷ CallWord.Outq ∷ CallWord.Close
    ∷ CallWord.Unlink ∷ CallWord.Socket ∷ CallWord.Pair ∷ CallWord.Bind ∷ CallWord.Listen ∷ CallWord.Connect ∷ CallWord.Accept
    ∷ CallWord.Shut ∷ CallWord.GetOpt ∷ CallWord.SetOpt ∷ CallWord.SockName ∷ CallWord.PeerName ∷ CallWord.Send ∷ CallWord.Recv
    ∷ CallWord.Poll ∷ CallWord.Polls ∷ CallWord.SetIds ∷ CallWord.Fork ∷ CallWord.Exec ∷ CallWord.Exit ∷ []

-- the end of the whole layer, which no process calls
abbrev pub is_off_word : CallWord → Bool
is_off_word CallWord.Off = true
is_off_word word = false
