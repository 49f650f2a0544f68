-- The text of a run beside its script: a line for each entry, with the arguments of its call.
use Rattle.std.specs.Prelude.{ℕ, Bool, true, false, List, [], ◌∷◌, ◌++◌, Option, Some, None, codes, map, decimal, if◌then◌else◌, ◌==◌, ◌&&◌, not, nat_le}
use Rattle.std.specs.Fmt.{signed_decimal}
use Rattle.std.specs.List.{flat_map}
use Rattle.ux_fields.specs.Rows.{fields_of, FieldValue, fd_field, number_field, size_field, space_field, value_field, offset_field, backlog_field, path_field}
use Rattle.ux_fields.specs.Rows.{bytes_field, addr_field, target_field, mode_field, whence_field, type_field, option_field, open_flags_field, counter_flags_field, msg_flags_field, control_field, poll_fds_field, waits_field}
use Rattle.ux_model.specs.Types.{OpenFlags, MsgFlags, PollFlags, PollFd, PollFds, SockType, SockOpt, Mode, Whence, Request, Entry}
use Rattle.ux_model.specs.Control.{Control}
use Rattle.ux_model.specs.ControlReading.{control_in}
use Rattle.ux_model.specs.Flags.{has_bits}
use Rattle.ux_trace.specs.Trace.{dash, digit_pair, path_text, addr_text, joined}
use Rattle.ux_trace.specs.Trace.{addr_or_dash, parsed_control_text, reply_text, closed_text, word_text}
use Rattle.ux_trace.specs.Trace.{request_word}

-- ---- words that scripts have too

abbrev pub letter : Bool → ℕ → List ℕ
letter b c = if b then c ∷ [] else []

abbrev pub or_dash : List ℕ → List ℕ
or_dash [] = dash
or_dash (c ∷ cs) = c ∷ cs

-- the letters of anx whose flags are set, and behind them s of a semaphore, or a dash: append, non-blocking, close-on-exec
abbrev pub counter_flags : Bool × OpenFlags → List ℕ
counter_flags c = or_dash
    (letter (has_bits c.1.0 1) 97 ++ (letter (has_bits c.1.0 2) 110 ++ (letter (has_bits c.1.0 4) 120 ++ letter c.0 115)))

-- the same of what is no semaphore
abbrev pub open_flags : OpenFlags → List ℕ
open_flags f = counter_flags (false, f)

-- the letters of dptx whose flags are set, or a dash: DONTWAIT, PEEK, TRUNC, CMSG_CLOEXEC
abbrev pub msg_flags : MsgFlags → List ℕ
msg_flags f =
    or_dash (letter (has_bits f.0 4) 100 ++ (letter (has_bits f.0 1) 112 ++ (letter (has_bits f.0 2) 116 ++ letter (has_bits f.0 8) 120)))

-- the letters of ioh whose conditions are asked for, or a dash: IN, OUT, RDHUP
abbrev pub events_text : PollFlags → List ℕ
events_text f = or_dash (letter (has_bits f.0 1) 105 ++ (letter (has_bits f.0 2) 111 ++ letter (has_bits f.0 4) 104))

-- the number of a descriptor, a colon, and what is asked for
abbrev pub asked_text : PollFd → List ℕ
asked_text asked = decimal asked.fd.0 ++ (58 ∷ events_text asked.events)

-- descriptors with what is asked for, joined by commas, or a dash where there is none
abbrev pub poll_fds_text : PollFds → List ℕ
poll_fds_text fds = joined 44 (map asked_text fds)

-- whether a call waits
abbrev pub waits_text : Bool → List ℕ
waits_text true = codes "wait"
waits_text false = codes "now"

abbrev pub type_text : SockType → List ℕ
type_text SockType.Stream = codes "stream"
type_text SockType.Dgram = codes "dgram"
type_text SockType.Seq = codes "seq"

abbrev pub option_text : SockOpt → List ℕ
option_text SockOpt.Kind = codes "type"
option_text SockOpt.Error = codes "error"
option_text SockOpt.PassCred = codes "passcred"
option_text SockOpt.PeerCred = codes "peercred"
option_text SockOpt.AcceptConn = codes "accept"
option_text SockOpt.QueueLimit = codes "qlimit"

abbrev pub mode_text : Mode → List ℕ
mode_text Mode.Read = codes "r"
mode_text Mode.Write = codes "w"
mode_text Mode.Both = codes "rw"

abbrev pub whence_text : Whence → List ℕ
whence_text Whence.Set = codes "set"
whence_text Whence.Cur = codes "cur"
whence_text Whence.End = codes "end"

-- ---- arguments

-- a byte from 0x20 to 0x7e, but no quotation mark and no backslash
abbrev pub is_shown : ℕ → Bool
is_shown b = nat_le 32 b && nat_le b 126 && not (b == 34) && not (b == 92)

-- such a byte stands for itself between quotation marks, each other one is \x and its two digits
abbrev pub quoted_byte : ℕ → List ℕ
quoted_byte b = if is_shown b then b ∷ [] else codes "\\x" ++ digit_pair b

-- bytes between quotation marks
abbrev pub quoted : List ℕ → List ℕ
quoted bytes = 34 ∷ (flat_map quoted_byte bytes ++ (34 ∷ []))

-- what the control bytes of a send say, where they spell items
abbrev pub sent_control : Request → Option Control
sent_control (Request.SendMsg fd addr bytes control flags) = control_in control
sent_control request = None

-- a field, where the control bytes of a send read as this
abbrev pub telling : Option Control → FieldValue → List ℕ
telling read (fd_field it) = decimal it.0
telling read (number_field it) = decimal it
telling read (size_field it) = decimal it
telling read (space_field it) = decimal it
telling read (value_field it) = decimal it
telling read (offset_field it) = signed_decimal it
telling read (backlog_field it) = signed_decimal it
telling read (path_field it) = path_text it
telling read (bytes_field it) = quoted it
telling read (addr_field it) = addr_text it
telling read (target_field it) = addr_or_dash it
telling read (mode_field it) = mode_text it
telling read (whence_field it) = whence_text it
telling read (type_field it) = type_text it
telling read (option_field it) = option_text it
telling read (open_flags_field it) = open_flags it
telling read (counter_flags_field it) = counter_flags it
telling read (msg_flags_field it) = msg_flags it
telling read (control_field it) = parsed_control_text it read
telling read (poll_fds_field it) = poll_fds_text it
telling read (waits_field it) = waits_text it

-- a comma and a blank, and a text
abbrev pub after_comma : List ℕ → List ℕ
after_comma text = codes ", " ++ text

-- texts with a comma and a blank between them, and a bracket at last
abbrev pub listed : List (List ℕ) → List ℕ
listed [] = codes ")"
listed (text ∷ texts) = text ++ (flat_map after_comma texts ++ codes ")")

-- the word and the arguments in the order of the script's line, where the control bytes of a send read as this
abbrev pub call_telling : Option Control → Request → List ℕ
call_telling read request = word_text (request_word request) ++ (codes "(" ++ listed (map (telling read) (fields_of request)))

-- the call's word, and its arguments between brackets
abbrev pub call_text : Request → List ℕ
call_text request = call_telling (sent_control request) request

-- ---- lines

-- what stands behind = in the line of a trace
abbrev pub answer : Entry → List ℕ
answer e = reply_text e.reply ++ closed_text e.released

-- a number, or a dash for none
abbrev pub number_or_dash : Option ℕ → List ℕ
number_or_dash None = dash
number_or_dash (Some n) = decimal n

-- LINE PID WORD(ARGUMENT, ..) = REPLY, and behind that the file objects that were closed
abbrev pub echo_line : Option ℕ → Entry → List ℕ
echo_line line e =
    number_or_dash line ++ (codes " " ++ (decimal e.pid.0 ++ (codes " "
    ++ (call_text e.request ++ (codes " = " ++ (reply_text e.reply ++ (closed_text e.released ++ (10 ∷ []))))))))

-- the lines of entries, each with the number of its script's line: the first of the numbers, the second and so on, and none behind the last
abbrev pub echo : List (Option ℕ) → List Entry → List ℕ
echo numbers [] = []
echo [] (e ∷ es) = echo_line None e ++ echo [] es
echo (number ∷ numbers) (e ∷ es) = echo_line number e ++ echo numbers es
