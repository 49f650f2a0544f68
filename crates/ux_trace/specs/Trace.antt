-- The text of a history: a line for each entry.
use Rattle.std.specs.Prelude.{ℕ, ◌+◌, ◌/◌, ◌%◌, Bool, false, List, [], ◌∷◌, ◌++◌, map, Option, Some, None, codes, decimal, if◌then◌else◌}
use Rattle.std.specs.Prelude.{◌==◌, ◌&&◌, not, nat_le}
use Rattle.std.specs.Fmt.{digit_glyph}
use Rattle.std.specs.List.{flat_map, join_with_byte}
use Rattle.ux_model.specs.Types.{Cred, Name, Addr, Errno, MsgFlags, OpenFlags, PollFlags, Revents, Reply, Entry}
use Rattle.ux_model.specs.Control.{Control}
use Rattle.ux_model.specs.ControlReading.{control_in}
use Rattle.ux_model.specs.Flags.{has_bits}
pub use Rattle.ux_fields.specs.Forms.{word_text, request_word}

-- no value
abbrev pub dash : List ℕ
dash = 45 ∷ []

-- the two digits of a byte, of 0-9a-f
abbrev pub digit_pair : ℕ → List ℕ
digit_pair b = digit_glyph false (b / 16) ∷ digit_glyph false (b % 16) ∷ []

-- pairs of digits, or a dash for no bytes
abbrev pub hex : List ℕ → List ℕ
hex [] = dash
hex (b ∷ bs) = flat_map digit_pair (b ∷ bs)

-- a byte from 0x21 to 0x7e, but no %
abbrev pub stands : ℕ → Bool
stands b = nat_le 33 b && nat_le b 126 && not (b == 37)

-- such a byte stands for itself in a name, each other one is % and its two digits
abbrev pub name_byte : ℕ → List ℕ
name_byte b = if stands b then b ∷ [] else 37 ∷ digit_pair b

abbrev pub name_text : Name → List ℕ
name_text name = flat_map name_byte name

-- a letter, a colon and the name
abbrev pub lettered : ℕ → Name → List ℕ
lettered letter name = letter ∷ 58 ∷ name_text name

-- p: and the name
abbrev pub path_text : Name → List ℕ
path_text name = lettered 112 name

-- u, or p: and the path, or a: and the name of the abstract namespace
abbrev pub addr_text : Addr → List ℕ
addr_text Addr.Unnamed = codes "u"
addr_text (Addr.Path name) = path_text name
addr_text (Addr.Abstract name) = lettered 97 name

-- an address, or a dash for none
abbrev pub addr_or_dash : Option Addr → List ℕ
addr_or_dash None = dash
addr_or_dash (Some addr) = addr_text addr

-- the names of those that are set
abbrev pub set_names : List (Bool × List ℕ) → List (List ℕ)
set_names [] = []
set_names (row ∷ rows) = if row.0 then row.1 ∷ set_names rows else set_names rows

-- texts joined by this byte, or a dash where there is none
abbrev pub joined : ℕ → List (List ℕ) → List ℕ
joined byte [] = dash
joined byte (text ∷ texts) = join_with_byte byte (text ∷ texts)

-- names joined by a vertical bar, or a dash where there is none
abbrev pub flags_text : List (Bool × List ℕ) → List ℕ
flags_text rows = joined 124 (set_names rows)

-- the flags that a receive sets, in the order of a trace
abbrev pub received_rows : MsgFlags → List (Bool × List ℕ)
received_rows f = (has_bits f.0 2, codes "TRUNC") ∷ (has_bits f.0 16, codes "CTRUNC") ∷ (has_bits f.0 32, codes "EOR") ∷ []

abbrev pub received_flags_text : MsgFlags → List ℕ
received_flags_text f = flags_text (received_rows f)

-- the conditions that a poll finds, in the order of a trace
abbrev pub poll_rows : PollFlags → List (Bool × List ℕ)
poll_rows f = (has_bits f.0 1, codes "IN") ∷ (has_bits f.0 2, codes "OUT") ∷ (has_bits f.0 4, codes "RDHUP")
    ∷ (has_bits f.0 8, codes "HUP") ∷ (has_bits f.0 16, codes "ERR") ∷ (has_bits f.0 32, codes "NVAL") ∷ []

abbrev pub poll_flags_text : PollFlags → List ℕ
poll_flags_text f = flags_text (poll_rows f)

-- those of each descriptor, each set after a blank
abbrev pub found_text : Revents → List ℕ
found_text found = flat_map (λ f. 32 ∷ poll_flags_text f) found

-- the flags of a descriptor and of its description, in the order of a trace
abbrev pub open_rows : OpenFlags → List (Bool × List ℕ)
open_rows f = (has_bits f.0 1, codes "APPEND") ∷ (has_bits f.0 2, codes "NONBLOCK") ∷ (has_bits f.0 4, codes "CLOEXEC") ∷ []

abbrev pub open_flags_text : OpenFlags → List ℕ
open_flags_text f = flags_text (open_rows f)

-- x: and the bytes
abbrev pub raw_text : List ℕ → List ℕ
raw_text bytes = codes "x:" ++ hex bytes

-- r: and descriptor numbers, joined by commas
abbrev pub rights_text : List ℕ → List ℕ
rights_text numbers = codes "r:" ++ join_with_byte 44 (map decimal numbers)

-- c: and the process, the user and the group
abbrev pub cred_text : Cred → List ℕ
cred_text cred = codes "c:" ++ (decimal cred.pid.0 ++ (codes "," ++ (decimal cred.uid ++ (codes "," ++ decimal cred.gid))))

abbrev pub cred_parts : Option Cred → List (List ℕ)
cred_parts None = []
cred_parts (Some cred) = cred_text cred ∷ []

abbrev pub rights_parts : List ℕ → List (List ℕ)
rights_parts [] = []
rights_parts (n ∷ ns) = rights_text (n ∷ ns) ∷ []

-- credentials and descriptor numbers as far as there are any, in this order, joined by a plus, or a dash where there is neither
abbrev pub said_text : Control → List ℕ
said_text control = joined 43 (cred_parts control.cred ++ rights_parts control.rights)

-- what control bytes say that read as this, or the bytes themselves where they read as nothing
abbrev pub parsed_control_text : List ℕ → Option Control → List ℕ
parsed_control_text bytes None = raw_text bytes
parsed_control_text bytes (Some control) = said_text control

-- what control bytes spell: what they say, or the bytes themselves where they spell no items
abbrev pub items_text : List ℕ → List ℕ
items_text bytes = parsed_control_text bytes (control_in bytes)

-- what a receive got: the count, the bytes, the flags, the items of its control bytes, and the sender's address
abbrev pub got_text : ℕ → List ℕ → MsgFlags → List ℕ → Option Addr → List ℕ
got_text count bytes flags items from =
    codes "got " ++ (decimal count ++ (codes " " ++ (hex bytes ++ (codes " " ++ (received_flags_text flags
    ++ (codes " " ++ (items ++ (codes " " ++ addr_or_dash from))))))))

-- a refusal's name, as POSIX and unix(7) have it
abbrev pub errno_text : Errno → List ℕ
errno_text Errno.EPERM = codes "EPERM"
errno_text Errno.ENOENT = codes "ENOENT"
errno_text Errno.ESRCH = codes "ESRCH"
errno_text Errno.EIO = codes "EIO"
errno_text Errno.EBADF = codes "EBADF"
errno_text Errno.EAGAIN = codes "EAGAIN"
errno_text Errno.ENOMEM = codes "ENOMEM"
errno_text Errno.EINVAL = codes "EINVAL"
errno_text Errno.EMFILE = codes "EMFILE"
errno_text Errno.EFBIG = codes "EFBIG"
errno_text Errno.ENOSPC = codes "ENOSPC"
errno_text Errno.ESPIPE = codes "ESPIPE"
errno_text Errno.EPIPE = codes "EPIPE"
errno_text Errno.ENOTSOCK = codes "ENOTSOCK"
errno_text Errno.EDESTADDRREQ = codes "EDESTADDRREQ"
errno_text Errno.EMSGSIZE = codes "EMSGSIZE"
errno_text Errno.EPROTOTYPE = codes "EPROTOTYPE"
errno_text Errno.EOPNOTSUPP = codes "EOPNOTSUPP"
errno_text Errno.EADDRINUSE = codes "EADDRINUSE"
errno_text Errno.ECONNRESET = codes "ECONNRESET"
errno_text Errno.EISCONN = codes "EISCONN"
errno_text Errno.ENOTCONN = codes "ENOTCONN"
errno_text Errno.ETOOMANYREFS = codes "ETOOMANYREFS"
errno_text Errno.ECONNREFUSED = codes "ECONNREFUSED"
errno_text Errno.ENFILE = codes "ENFILE"
errno_text Errno.EEXIST = codes "EEXIST"
errno_text Errno.ENOTTY = codes "ENOTTY"

abbrev pub reply_text : Reply → List ℕ
reply_text Reply.Ok = codes "ok"
reply_text (Reply.Fd a) = codes "fd " ++ decimal a.0
reply_text (Reply.Fds a b) = codes "fds " ++ (decimal a.0 ++ (codes " " ++ decimal b.0))
reply_text (Reply.Count n) = codes "n " ++ decimal n
reply_text (Reply.Bytes bytes) = codes "bytes " ++ hex bytes
reply_text (Reply.At n) = codes "at " ++ decimal n
reply_text (Reply.Received flags count bytes control from) = got_text count bytes flags (items_text control) from
reply_text (Reply.Accepted a name) = codes "accepted " ++ (decimal a.0 ++ (codes " " ++ addr_text name))
reply_text (Reply.Addr name) = codes "addr " ++ addr_text name
reply_text (Reply.Opt n) = codes "opt " ++ decimal n
reply_text (Reply.Cred cred) = codes "cred " ++ (decimal cred.pid.0 ++ (codes " " ++ (decimal cred.uid ++ (codes " " ++ decimal cred.gid))))
reply_text (Reply.Poll flags) = codes "poll " ++ poll_flags_text flags
reply_text (Reply.Polled found) = codes "polled" ++ found_text found
reply_text (Reply.Child pid) = codes "child " ++ decimal pid.0
reply_text (Reply.Flags flags) = codes "flags " ++ open_flags_text flags
reply_text (Reply.Err e) = codes "err " ++ errno_text e

-- the same where the control bytes of a receive read as this
abbrev pub reply_reading : Option Control → Reply → List ℕ
reply_reading read (Reply.Received flags count bytes control from) = got_text count bytes flags (parsed_control_text control read) from
reply_reading read reply = reply_text reply

-- numbers, each after a blank
abbrev pub spaced : List ℕ → List ℕ
spaced numbers = flat_map (λ n. 32 ∷ decimal n) numbers

-- the file objects that were closed at the end of a call, or nothing where none was
abbrev pub closed_text : List ℕ → List ℕ
closed_text [] = []
closed_text (n ∷ ns) = codes " closed" ++ spaced (n ∷ ns)

-- N PID K WORD = REPLY, and behind that the file objects that were closed
abbrev pub entry_line : ℕ → Entry → List ℕ
entry_line n e =
    decimal n ++ (codes " " ++ (decimal e.pid.0 ++ (codes " " ++ (decimal e.k ++ (codes " "
    ++ (word_text (request_word e.request) ++ (codes " = " ++ (reply_text e.reply ++ (closed_text e.released ++ (10 ∷ []))))))))))

-- the lines of the entries, of which the first has this number
abbrev pub trace_from : ℕ → List Entry → List ℕ
trace_from n [] = []
trace_from n (e ∷ es) = entry_line n e ++ trace_from (n + 1) es

-- the text of a whole history
abbrev pub trace : List Entry → List ℕ
trace es = trace_from 0 es
