-- Which lines spell which script.
use Rattle.std.specs.Prelude.{◌≡◌, ◌≢◌, ℕ, ◌+◌, ◌<◌, ◌≤◌, ◌^◌, ℤ, pos, negsuc, take, Bool, true, false, List, [], ◌∷◌, ◌++◌, length, ◌-◌}
use Rattle.std.specs.Prelude.{replicate, map, filter, count_by, codes, decimal, Option, Some, None, IfSome, if◌then◌else◌, ◌==◌, ◌&&◌, ◌||◌}
use Rattle.std.specs.Prelude.{not, slice_index_or}
use Rattle.std.specs.List.{AllByRecursion, slice_split, join_with_byte}
use Rattle.std.specs.Fmt.{signed_decimal}
use Rattle.ux_model.specs.Types.{Cred, Addr, OpenFlags, MsgFlags, PollFlags, PollFd, PollFds, ProcSpec, Request}
use Rattle.ux_fields.specs.declared.CallWord.{CallWord}
use Rattle.ux_fields.specs.declared.FieldKind.{FieldKind}
use Rattle.ux_fields.specs.Forms.{word_text, request_word, kinds, wants_serial, is_off_word}
use Rattle.ux_fields.specs.Rows.{Value, Row, request_of}
use Rattle.ux_model.specs.Limits.{made_limit}
pub use Rattle.ux_model.specs.History.{is_exit, is_off, is_fork}
use Rattle.ux_object.specs.declared.ObjKind.{ObjKind}
use Rattle.ux_model.specs.Control as model
use Rattle.ux_model.specs.Delivery.{control_bytes}
use Rattle.ux_syntax.specs.declared.control.ControlWord.{ControlWord}
use Rattle.ux_syntax.specs.declared.fault.Fault.{Fault}
use Rattle.ux_syntax.specs.declared.script.ObjectLine.{ObjectLine}
use Rattle.ux_syntax.specs.declared.script.Header.{Header}
use Rattle.ux_syntax.specs.declared.script.Act.{Act}
use Rattle.ux_syntax.specs.Lines.{Line}
use Rattle.ux_syntax.specs.declared.script.Script.{Script}
pub use Rattle.ux_trace.specs.Echoes.{letter, or_dash, open_flags, counter_flags, msg_flags, type_text, option_text, mode_text, whence_text}
pub use Rattle.ux_trace.specs.Echoes.{events_text, asked_text, poll_fds_text, waits_text}
use Rattle.ux_syntax.specs.Text.{plain_line}
use Rattle.ux_trace.specs.Trace.{dash, hex, path_text, addr_text, addr_or_dash, raw_text, rights_text, cred_text}

-- ---- what a script says

-- whether it has one order alone, its file objects, its processes and their lines, and whether the layer is ended at last, without where
-- they lie in memory
pub record Plan : Type 0 where
  pub serial : Bool
  pub objects : List ObjectLine
  pub procs : List ProcSpec
  pub lines : List Line
  pub off : Bool

abbrev pub plan_of : Script → Plan
plan_of s = record { serial = s.serial; objects = s.objects.items; procs = s.procs.items; lines = s.lines.items; off = s.off }

-- the file objects and the processes of a header, each in order
abbrev pub objects_of : List Header → List ObjectLine
objects_of [] = []
objects_of (Header.Object o ∷ hs) = o ∷ objects_of hs
objects_of (Header.Proc p ∷ hs) = objects_of hs

abbrev pub procs_of : List Header → List ProcSpec
procs_of [] = []
procs_of (Header.Object o ∷ hs) = procs_of hs
procs_of (Header.Proc p ∷ hs) = p ∷ procs_of hs

-- ---- calls as they are written

-- bytes, and zeros behind them up to where the next item of a control buffer begins
abbrev pub padded : List ℕ → List ℕ
padded bytes = bytes ++ replicate (model.padding_behind (length bytes)) 0

-- The bytes of a control buffer, of which several writings may stand for the same: none, those that are written out, or the items of
-- descriptor numbers and credentials in their order, each on a multiple of the alignment, with nothing behind the last.
abbrev pub control_buffer : ControlWord → List ℕ
control_buffer ControlWord.Bare = []
control_buffer (ControlWord.Raw bytes) = bytes
control_buffer (ControlWord.Rights numbers) = control_bytes None numbers
control_buffer (ControlWord.Credentials cred) = control_bytes (Some cred) []
control_buffer (ControlWord.CredentialsFirst cred numbers) = control_bytes (Some cred) numbers
control_buffer (ControlWord.RightsFirst numbers cred) = padded (control_bytes None numbers) ++ control_bytes (Some cred) []

-- a field as it is written: of control data, by which items
abbrev pub WrittenValue : FieldKind → Type 0
WrittenValue FieldKind.Control = ControlWord
WrittenValue kind = Value kind

abbrev pub WrittenRow : List FieldKind → Type 0
WrittenRow [] = Unit {0}
WrittenRow (kind ∷ kinds) = WrittenValue kind × WrittenRow kinds

-- a call as it is written: its word, and its fields
pub record Written : Type 0 where
  pub word : CallWord
  pub fields : WrittenRow (kinds word)

-- the value that is meant
abbrev pub meant : (kind : FieldKind) → WrittenValue kind → Value kind
meant FieldKind.Control word = control_buffer word
meant kind value = value

abbrev pub meant_row : (kinds : List FieldKind) → WrittenRow kinds → Row kinds
meant_row [] row = tt
meant_row (kind ∷ kinds) row = (meant kind row.0, meant_row kinds row.1)

-- the call that is meant
abbrev pub meaning : Written → Request
meaning c = request_of c.word (meant_row (kinds c.word) c.fields)

-- what a line asks for as it is written: a call, or to wait until a process has so many entries
pub data Asked : Type 0 where
  call : (written : Written) → Asked
  wait : (pid calls : ℕ) → Asked

abbrev pub act_of : Asked → Act
act_of (call written) = Act.Call (meaning written)
act_of (wait pid calls) = Act.Wait (record { 0 = pid }) calls

-- a process's number, and what is asked of it
pub record Turn : Type 0 where
  pub pid : ℕ
  pub asked : Asked

abbrev pub line_of : Turn → Line
line_of t = record { pid = record { 0 = t.pid }; act = act_of t.asked }

-- ---- words

abbrev pub control_text : ControlWord → List ℕ
control_text ControlWord.Bare = dash
control_text (ControlWord.Raw bytes) = raw_text bytes
control_text (ControlWord.Rights numbers) = rights_text numbers
control_text (ControlWord.Credentials cred) = cred_text cred
control_text (ControlWord.CredentialsFirst cred numbers) = join_with_byte 43 (cred_text cred ∷ rights_text numbers ∷ [])
control_text (ControlWord.RightsFirst numbers cred) = join_with_byte 43 (rights_text numbers ∷ cred_text cred ∷ [])

abbrev pub bit : Bool → List ℕ
bit b = if b then 49 ∷ [] else 48 ∷ []

abbrev pub kind_text : ObjKind → List ℕ
kind_text ObjKind.Memory = codes "mem"
kind_text ObjKind.Counter = codes "counter"
kind_text ObjKind.Pipe = codes "pipe"

-- the word of a field
abbrev pub spelling : (kind : FieldKind) → WrittenValue kind → List ℕ
spelling FieldKind.Fd fd = decimal fd.0
spelling FieldKind.Number n = decimal n
spelling FieldKind.Size n = decimal n
spelling FieldKind.Space n = decimal n
spelling FieldKind.Value n = decimal n
spelling FieldKind.Offset z = signed_decimal z
spelling FieldKind.Backlog z = signed_decimal z
spelling FieldKind.Path path = path_text path
spelling FieldKind.Bytes bytes = hex bytes
spelling FieldKind.Addr addr = addr_text addr
spelling FieldKind.Target addr = addr_or_dash addr
spelling FieldKind.Mode mode = mode_text mode
spelling FieldKind.Whence whence = whence_text whence
spelling FieldKind.SockType kind = type_text kind
spelling FieldKind.SockOpt opt = option_text opt
spelling FieldKind.OpenFlags flags = open_flags flags
spelling FieldKind.CounterFlags flags = counter_flags flags
spelling FieldKind.MsgFlags flags = msg_flags flags
spelling FieldKind.Control word = control_text word
spelling FieldKind.PollFds fds = poll_fds_text fds
spelling FieldKind.Waits waits = waits_text waits

abbrev pub spellings : (kinds : List FieldKind) → WrittenRow kinds → List (List ℕ)
spellings [] row = []
spellings (kind ∷ kinds) row = spelling kind row.0 ∷ spellings kinds row.1

-- the words that stand behind the call's word
abbrev pub args_of : Written → List (List ℕ)
args_of c = spellings (kinds c.word) c.fields

-- ---- lines

-- a memory file's bytes
abbrev pub body_words : ObjKind → List ℕ → List (List ℕ)
body_words ObjKind.Memory body = hex body ∷ []
body_words ObjKind.Counter body = []
body_words ObjKind.Pipe body = []

-- which of its reads and writes fails, where one does
abbrev pub fail_words : Option ℕ → List (List ℕ)
fail_words None = []
fail_words (Some n) = codes "fail" ∷ decimal n ∷ []

abbrev pub header_words : Header → List (List ℕ)
header_words (Header.Object o) = codes "object" ∷ path_text o.name ∷ (fail_words o.fail ++ (kind_text o.kind ∷ body_words o.kind o.body))
header_words (Header.Proc p) = codes "proc" ∷ decimal p.uid ∷ decimal p.gid ∷ bit p.privileged ∷ decimal p.limit ∷ []

abbrev pub header_line : Header → List ℕ
header_line h = join_with_byte 32 (header_words h)

abbrev pub asked_words : Asked → List (List ℕ)
asked_words (call written) = word_text written.word ∷ args_of written
asked_words (wait pid calls) = codes "wait" ∷ decimal pid ∷ decimal calls ∷ []

abbrev pub turn_words : Turn → List (List ℕ)
turn_words t = decimal t.pid ∷ asked_words t.asked

abbrev pub turn_line : Turn → List ℕ
turn_line t = join_with_byte 32 (turn_words t)

-- the line that says that the script has one order alone, where it does
abbrev pub serial_lines : Bool → List (List ℕ)
serial_lines serial = if serial then codes "serial" ∷ [] else []

-- the line that ends the layer, where the script has it
abbrev pub off_lines : Bool → List (List ℕ)
off_lines off = if off then codes "off" ∷ [] else []

-- an empty line says nothing, nor does one that begins with #
abbrev pub is_meant : List ℕ → Bool
is_meant [] = false
is_meant (c ∷ cs) = not (c == 35)

-- the lines of a text, which end at line feeds; the last may have none
abbrev pub lines_of : List ℕ → List (List ℕ)
lines_of text = slice_split (λ b. b == 10) text

-- ---- what can be written

abbrev pub IsNumber : ℕ → Type 0
IsNumber n = n < 2 ^ 32

abbrev pub AreBytes : List ℕ → Type 0
AreBytes bs = AllByRecursion (λ b. b < 256) bs

-- descriptor numbers are one at least
abbrev pub FitsRights : List ℕ → Type 0
FitsRights numbers = (0 < length numbers) × AllByRecursion IsNumber numbers

abbrev pub FitsCred : Cred → Type 0
FitsCred cred = IsNumber cred.pid.0 × IsNumber cred.uid × IsNumber cred.gid

-- bytes that are written out are one at least
abbrev pub FitsControl : ControlWord → Type 0
FitsControl ControlWord.Bare = Unit {0}
FitsControl (ControlWord.Raw bytes) = (0 < length bytes) × AreBytes bytes
FitsControl (ControlWord.Rights numbers) = FitsRights numbers
FitsControl (ControlWord.Credentials cred) = FitsCred cred
FitsControl (ControlWord.CredentialsFirst cred numbers) = FitsCred cred × FitsRights numbers
FitsControl (ControlWord.RightsFirst numbers cred) = FitsRights numbers × FitsCred cred

-- the flags that have a letter
abbrev pub FitsOpenFlags : OpenFlags → Type 0
FitsOpenFlags f = f.0 < 8

abbrev pub FitsMsgFlags : MsgFlags → Type 0
FitsMsgFlags f = f.0 < 16

abbrev pub FitsEvents : PollFlags → Type 0
FitsEvents f = f.0 < 8

-- a descriptor, and what is asked for of it
abbrev pub FitsPollFd : PollFd → Type 0
FitsPollFd asked = IsNumber asked.fd.0 × FitsEvents asked.events

abbrev pub FitsPollFds : PollFds → Type 0
FitsPollFds fds = AllByRecursion FitsPollFd fds

-- a number of so many bits beside its sign
abbrev pub IsSigned : ℕ → ℤ → Type 0
IsSigned bits (pos n) = n < 2 ^ bits
IsSigned bits (negsuc n) = n < 2 ^ bits

-- an i64
abbrev pub IsOffset : ℤ → Type 0
IsOffset z = IsSigned 63 z

-- an i32
abbrev pub IsBacklog : ℤ → Type 0
IsBacklog z = IsSigned 31 z

abbrev pub FitsAddr : Addr → Type 0
FitsAddr Addr.Unnamed = Unit {0}
FitsAddr (Addr.Path name) = AreBytes name
FitsAddr (Addr.Abstract name) = AreBytes name

-- an address, where there is one
abbrev pub FitsAddrOrDash : Option Addr → Type 0
FitsAddrOrDash None = Unit {0}
FitsAddrOrDash (Some addr) = FitsAddr addr

abbrev pub FitsField : (kind : FieldKind) → WrittenValue kind → Type 0
FitsField FieldKind.Fd fd = IsNumber fd.0
FitsField FieldKind.Number n = IsNumber n
FitsField FieldKind.Size n = IsNumber n
FitsField FieldKind.Space n = IsNumber n
FitsField FieldKind.Value n = IsNumber n
FitsField FieldKind.Offset z = IsOffset z
FitsField FieldKind.Backlog z = IsBacklog z
FitsField FieldKind.Path path = AreBytes path
FitsField FieldKind.Bytes bytes = AreBytes bytes
FitsField FieldKind.Addr addr = FitsAddr addr
FitsField FieldKind.Target addr = FitsAddrOrDash addr
FitsField FieldKind.OpenFlags flags = FitsOpenFlags flags
FitsField FieldKind.CounterFlags flags = FitsOpenFlags flags.1
FitsField FieldKind.MsgFlags flags = FitsMsgFlags flags
FitsField FieldKind.Control word = FitsControl word
FitsField FieldKind.PollFds fds = FitsPollFds fds
FitsField kind value = Unit {0}

abbrev pub FitsFields : (kinds : List FieldKind) → WrittenRow kinds → Type 0
FitsFields [] row = Unit {0}
FitsFields (kind ∷ kinds) row = FitsField kind row.0 × FitsFields kinds row.1

-- no process calls `off`
abbrev pub FitsCall : Written → Type 0
FitsCall c = (is_off_word c.word ≡ false) × FitsFields (kinds c.word) c.fields

abbrev pub FitsAsked : Asked → Type 0
FitsAsked (call written) = FitsCall written
FitsAsked (wait pid calls) = IsNumber pid × IsNumber calls

abbrev pub FitsTurn : Turn → Type 0
FitsTurn t = IsNumber t.pid × FitsAsked t.asked

-- a memory file alone starts with bytes
abbrev pub FitsBody : ObjKind → List ℕ → Type 0
FitsBody ObjKind.Memory body = AreBytes body
FitsBody ObjKind.Counter body = body ≡ []
FitsBody ObjKind.Pipe body = body ≡ []

-- reads and writes are counted from 1
abbrev pub FitsFail : Option ℕ → Type 0
FitsFail None = Unit {0}
FitsFail (Some n) = (0 < n) × IsNumber n

abbrev pub FitsHeader : Header → Type 0
FitsHeader (Header.Object o) = AreBytes o.name × FitsFail o.fail × FitsBody o.kind o.body
FitsHeader (Header.Proc p) = IsNumber p.uid × IsNumber p.gid × IsNumber p.limit

-- ---- which lines a script may have

-- one of this many processes, which are numbered from 1
abbrev pub IsProcess : ℕ → ℕ → Type 0
IsProcess count pid = (1 ≤ pid) × (pid ≤ count)

-- a process that is waited for is one of this many
abbrev pub AwaitsProcess : ℕ → Act → Type 0
AwaitsProcess count (Act.Call request) = Unit {0}
AwaitsProcess count (Act.Wait pid calls) = IsProcess count pid.0

-- the line is of one of this many processes, and so is one that it waits for
abbrev pub NamesProcesses : ℕ → Line → Type 0
NamesProcesses count line = IsProcess count line.pid.0 × AwaitsProcess count line.act

-- what is asked for is the process's exit
abbrev pub asks_exit : Act → Bool
asks_exit (Act.Call request) = is_exit request
asks_exit (Act.Wait pid calls) = false

-- what is asked for is the end of the whole layer
abbrev pub asks_off : Act → Bool
asks_off (Act.Call request) = is_off request
asks_off (Act.Wait pid calls) = false

-- what is asked for is a further process
abbrev pub asks_fork : Act → Bool
asks_fork (Act.Call request) = is_fork request
asks_fork (Act.Wait pid calls) = false

-- a call that stands only where the script has one order alone
abbrev pub is_recorded : Request → Bool
is_recorded request = wants_serial (request_word request)

-- what is asked for is such a call
abbrev pub asks_recorded : Act → Bool
asks_recorded (Act.Call request) = is_recorded request
asks_recorded (Act.Wait pid calls) = false

-- how many of the lines ask for a further process
abbrev pub forks_of : List Line → ℕ
forks_of lines = count_by (λ line. asks_fork line.act) lines

-- the processes that a line behind all others knows: those of the header, and one more for each fork line
abbrev pub known_count : Plan → ℕ
known_count s = length s.procs + forks_of s.lines

-- Each line is so, beside the number of processes that it knows: the first line knows so many, and behind a fork line there is one more.
abbrev pub EachKnowing : (ℕ → Line → Type 0) → ℕ → List Line → Type 0
EachKnowing IsSo count [] = Unit {0}
EachKnowing IsSo count (line ∷ lines) = IsSo count line × EachKnowing IsSo (count + forks_of (line ∷ [])) lines

-- A fork line is of a process that is there, and of process 1 where the script has more orders than one, and not all processes that may be
-- made are there before it.
abbrev pub MayFork : Bool → ℕ → Line → Type 0
MayFork serial count line =
    asks_fork line.act ≡ true → (serial ≡ false → line.pid.0 ≡ 1) × IsProcess count line.pid.0 × (count < made_limit)

-- some calls stand only where the script has one order alone
abbrev pub MayAsk : Bool → Line → Type 0
MayAsk serial line = asks_recorded line.act ≡ true → serial ≡ true

-- none of the lines is of the process
abbrev pub IsQuiet : ℕ → List Line → Type 0
IsQuiet pid lines = AllByRecursion (λ line. line.pid.0 ≢ pid) lines

-- a process has no line after its exit
abbrev pub NoneAfterExit : List Line → Type 0
NoneAfterExit [] = Unit {0}
NoneAfterExit (line ∷ lines) = (asks_exit line.act ≡ true → IsQuiet line.pid.0 lines) × NoneAfterExit lines

-- the line is a process's own, and not the end of the whole layer
abbrev pub IsCall : Line → Type 0
IsCall line = asks_off line.act ≡ false

-- each line is of a process that is there and hasn't made its exit, each process that is waited for is there, and where the script has more
-- orders than one process 1 alone forks, and some calls don't stand
pub record IsOrderly (s : Plan) : Type 0 where
  pub processes : EachKnowing NamesProcesses (length s.procs) s.lines
  pub forks : EachKnowing (MayFork s.serial) (length s.procs) s.lines
  pub exits : NoneAfterExit s.lines
  pub calls : AllByRecursion IsCall s.lines
  pub recorded : AllByRecursion (MayAsk s.serial) s.lines

-- ---- which lines spell which script

-- how many bytes a line may have, without its newline: more behind a line `serial`
abbrev pub line_limit : Bool → ℕ
line_limit serial = if serial then 200000 else 4096

-- Each line is short: by the script's own limit behind the first that says something, which is `serial` where that limit is another, and by
-- the common one up to there. The lines begin behind such a line, or before.
abbrev pub AreShort : Bool → Bool → List (List ℕ) → Type 0
AreShort serial behind [] = Unit {0}
AreShort serial behind (text ∷ texts) = (length text ≤ line_limit (serial && behind)) × AreShort serial (behind || is_meant text) texts

-- The lines, which are short, spell the script. Of the plain lines of those that say something `serial` is the first where the script has
-- one
-- order alone, then come the header's, then the processes' as they are written, and `off` at last where the script has it.
pub record SpellScript (texts : List (List ℕ)) (s : Plan) : Type 0 where
  pub headers : List Header
  pub turns : List Turn
  pub short : AreShort s.serial false texts
  pub spelled : map plain_line (filter is_meant texts) ≡ serial_lines
      s.serial ++ (map header_line headers ++ (map turn_line turns ++ off_lines s.off))
  pub objects : objects_of headers ≡ s.objects
  pub procs : procs_of headers ≡ s.procs
  pub meant : map line_of turns ≡ s.lines
  pub fit_headers : AllByRecursion FitsHeader headers
  pub fit_turns : AllByRecursion FitsTurn turns
  pub orderly : IsOrderly s

-- ---- why a line is at fault

-- the line, rightly written and no fork, names a process that isn't there: its own or the one that it waits for; and `off` was not said,
-- nor its process's exit, and its call may stand in the script
abbrev pub IsCallOfStranger : Plan → List ℕ → Type 0
IsCallOfStranger s text =
    (t : Turn) × (plain_line text ≡ turn_line t) × FitsTurn t × (s.off ≡ false) × (asks_fork (act_of t.asked) ≡ false)
    × NoneAfterExit (s.lines ++ line_of t ∷ []) × MayAsk s.serial (line_of t) × (NamesProcesses (known_count s) (line_of t) → ⊥)

-- Why a line that comes after those of the script is at fault, if it is: too long before bad, and bad before unknown.
abbrev pub IsFaultOf : Fault → Plan → List ℕ → Type 0
IsFaultOf Fault.TooLong s text = line_limit s.serial < length text
IsFaultOf Fault.UnknownProcess s text = (length text ≤ line_limit s.serial) × IsCallOfStranger s text
IsFaultOf Fault.BadLine s text = (length text ≤ line_limit s.serial) × (IsCallOfStranger s text → ⊥)

-- The line of this number, counted from 1, is the first at fault, and so: those before it spell a script, and with it they spell none.
pub record IsFirstFault (texts : List (List ℕ)) (n : ℕ) (fault : Fault) : Type 0 where
  pub first : 1 ≤ n
  pub last : n ≤ length texts
  pub script : Plan
  pub before : SpellScript (take (n - 1) texts) script
  pub here : (s : Plan) → SpellScript (take n texts) s → ⊥
  pub why : IsFaultOf fault script (slice_index_or texts (n - 1) [])

-- ---- laws

-- what the items of control data say together; bytes that are written out may say anything
abbrev pub said_by : ControlWord → Option model.Control
said_by ControlWord.Bare = Some (record { cred = None; rights = [] })
said_by (ControlWord.Raw bytes) = None
said_by (ControlWord.Rights numbers) = Some (record { cred = None; rights = numbers })
said_by (ControlWord.Credentials cred) = Some (record { cred = Some cred; rights = [] })
said_by (ControlWord.CredentialsFirst cred numbers) = Some (record { cred = Some cred; rights = numbers })
said_by (ControlWord.RightsFirst numbers cred) = Some (record { cred = Some cred; rights = numbers })

-- a control buffer that is written in items spells what they say, where 8 bytes can count it
abbrev pub ItemsAreSpelled : Type 0
ItemsAreSpelled =
    (word : ControlWord) → FitsControl word → length (control_buffer word) < 2 ^ 64 →
    IfSome (said_by word) (λ said. model.Spells (control_buffer word) said)

-- a text spells one script at most
abbrev pub OneScript : Type 0
OneScript = (text : List ℕ) (a b : Plan) → SpellScript (lines_of text) a → SpellScript (lines_of text) b → a ≡ b
