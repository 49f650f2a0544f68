-- Reading from left to right: a script, or the first line that is at fault.
use Rattle.std.specs.Prelude.{ℕ, zero, suc, ◌+◌, ◌*◌, ◌^◌, ℤ, pos, negsuc, Bool, true, false, List, [], ◌∷◌, ◌++◌, length, map, codes}
use Rattle.std.specs.Prelude.{Option, Some, None, Result, Ok, Err, nat_lt, bit_or, ◌==◌, ◌&&◌, ◌||◌, if◌then◌else◌, not}
use Rattle.std.specs.List.{slice_split, find, list_all}
use Rattle.std.specs.Option.{option_map}
use Rattle.std.specs.Str.{bytes_eq}
use Rattle.std.specs.Char.{is_ascii_digit}
use Rattle.std.specs.Str.Parse.{signed_digits_value}
use Rattle.ux_model.specs.Limits.{made_limit}
use Rattle.ux_model.specs.Types.{Cred, Fd, Name, Addr, OpenFlags, MsgFlags, PollFlags, PollFd, PollFds, SockType, SockOpt, Mode, Whence, ProcSpec, Request}
use Rattle.ux_object.specs.declared.ObjKind.{ObjKind}
use Rattle.ux_syntax.specs.declared.fault.Fault.{Fault}
use Rattle.ux_syntax.specs.declared.fault.Fault.TheVariants.{BadLine, UnknownProcess, TooLong}
use Rattle.ux_syntax.specs.declared.fault.ScriptFault.{ScriptFault}
use Rattle.ux_fields.specs.declared.CallWord.{CallWord}
use Rattle.ux_fields.specs.declared.FieldKind.{FieldKind}
use Rattle.ux_fields.specs.Forms.{word_text, kinds, script_words}
use Rattle.ux_fields.specs.Rows.{request_of}
use Rattle.ux_syntax.specs.declared.control.ControlItem.{ControlItem}
use Rattle.ux_syntax.specs.declared.control.ControlWord.{ControlWord}
use Rattle.ux_syntax.specs.declared.script.ObjectLine.{ObjectLine}
use Rattle.ux_syntax.specs.declared.script.Header.{Header}
use Rattle.ux_syntax.specs.declared.script.Act.{Act}
use Rattle.ux_syntax.specs.Lines.{Line}
use Rattle.ux_syntax.specs.declared.reading.Parsed.{Parsed}
use Rattle.ux_trace.specs.Trace.{dash, stands}
pub use Rattle.ux_syntax.specs.Digits.{◌>>=◌, is_plain, digit_at}
unfoldable pub use Rattle.ux_syntax.specs.Digits.{number_at}
use Rattle.ux_syntax.specs.Text.{plain_line}
use Rattle.ux_syntax.specs.Spelling.{Plan, WrittenValue, WrittenRow, meant_row, bit}
use Rattle.ux_syntax.specs.Spelling.{mode_text, type_text, option_text, whence_text, waits_text, kind_text, is_meant, asks_fork, asks_recorded}
use Rattle.ux_syntax.specs.Spelling.{known_count, line_limit}
use Rattle.ux_syntax.specs.Turns.{has_exited, is_known, awaits_known}

-- ---- a word

abbrev pub pairs_at : List ℕ → Result (List ℕ) Fault
pairs_at [] = Ok []
pairs_at (h ∷ []) = Err BadLine
pairs_at (h ∷ l ∷ rest) = do
  high ← digit_at h
  low ← digit_at l
  bytes ← pairs_at rest
  Ok ((16 * high + low) ∷ bytes)

unfoldable pub hex_at : List ℕ → Result (List ℕ) Fault
hex_at [] = Err BadLine
hex_at (c ∷ cs) = if bytes_eq (c ∷ cs) dash then Ok [] else pairs_at (c ∷ cs)

-- a descriptor number
abbrev pub fd_at : List ℕ → Result Fd Fault
fd_at w = number_at w >>= λ n. Ok (record { 0 = n })

abbrev pub or_bad : {A : Type 0} → Option A → Result A Fault
or_bad None = Err BadLine
or_bad (Some x) = Ok x

-- the value beside the word in a table of words and values
abbrev pub beside_at : {A : Type 0} → List (List ℕ × A) → List ℕ → Result A Fault
beside_at rows w = or_bad (option_map (λ row. row.1) (find (λ row. bytes_eq w row.0) rows))

-- the one of these values whose text the word is
abbrev pub chosen_at : {A : Type 0} → (A → List ℕ) → List A → List ℕ → Result A Fault
chosen_at text all w = beside_at (map (λ x. (text x, x)) all) w

abbrev pub bit_at : List ℕ → Result Bool Fault
bit_at w = chosen_at bit (false ∷ true ∷ []) w

unfoldable pub type_at : List ℕ → Result SockType Fault
type_at w = chosen_at type_text (SockType.Stream ∷ SockType.Dgram ∷ SockType.Seq ∷ []) w

unfoldable pub option_at : List ℕ → Result SockOpt Fault
option_at w =
    chosen_at option_text
    (SockOpt.Kind ∷ SockOpt.Error ∷ SockOpt.PassCred ∷ SockOpt.PeerCred ∷ SockOpt.AcceptConn ∷ SockOpt.QueueLimit ∷ []) w

unfoldable pub mode_at : List ℕ → Result Mode Fault
mode_at w = chosen_at mode_text (Mode.Read ∷ Mode.Write ∷ Mode.Both ∷ []) w

unfoldable pub whence_at : List ℕ → Result Whence Fault
whence_at w = chosen_at whence_text (Whence.Set ∷ Whence.Cur ∷ Whence.End ∷ []) w

-- whether a call waits
unfoldable pub waits_at : List ℕ → Result Bool Fault
waits_at w = chosen_at waits_text (false ∷ true ∷ []) w

unfoldable pub kind_at : List ℕ → Result ObjKind Fault
kind_at w = chosen_at kind_text (ObjKind.Memory ∷ ObjKind.Counter ∷ ObjKind.Pipe ∷ []) w

-- a word without the - that it begins with, if any
abbrev pub without_minus : List ℕ → List ℕ
without_minus [] = []
without_minus (c ∷ cs) = if c == 45 then cs else c ∷ cs

-- a number of so many bits beside its sign
abbrev pub is_signed : ℕ → ℤ → Bool
is_signed bits (pos n) = nat_lt n (2 ^ bits)
is_signed bits (negsuc n) = nat_lt n (2 ^ bits)

abbrev pub is_i64 : ℤ → Bool
is_i64 z = is_signed 63 z

-- digits that don't begin with a 0, or one digit, behind a - below 0
unfoldable pub offset_at : List ℕ → Result ℤ Fault
offset_at w =
    if is_plain (without_minus w) && list_all is_ascii_digit (without_minus w) && not (bytes_eq w (45 ∷ 48 ∷ []))
    && is_i64 (signed_digits_value 10 w)
    then Ok (signed_digits_value 10 w) else Err BadLine

-- the same, of 32 bits with the sign
unfoldable pub backlog_at : List ℕ → Result ℤ Fault
backlog_at w = offset_at w >>= λ z. if is_signed 31 z then Ok z else Err BadLine

abbrev pub plain_at : ℕ → Result ℕ Fault
plain_at c = if stands c then Ok c else Err BadLine

-- the byte of two digits, which doesn't stand for itself
abbrev pub escaped_at : ℕ → ℕ → Result ℕ Fault
escaped_at h l = do
  high ← digit_at h
  low ← digit_at l
  if stands (16 * high + low) then Err BadLine else Ok (16 * high + low)

-- the first byte of a name, and what follows its spelling
abbrev pub byte_at : List ℕ → Result (ℕ × List ℕ) Fault
byte_at [] = Err BadLine
byte_at (c ∷ []) = plain_at c >>= λ b. Ok (b, [])
byte_at (c ∷ d ∷ []) = plain_at c >>= λ b. Ok (b, d ∷ [])
byte_at (c ∷ h ∷ l ∷ rest) = if c == 37 then (escaped_at h l >>= λ b. Ok (b, rest)) else (plain_at c >>= λ b. Ok (b, h ∷ l ∷ rest))

-- a name of at most so many bytes
abbrev pub name_upto : ℕ → List ℕ → Result Name Fault
name_upto n [] = Ok []
name_upto zero (c ∷ cs) = Err BadLine
name_upto (suc n) (c ∷ cs) = byte_at (c ∷ cs) >>= λ x. name_upto n x.1 >>= λ bytes. Ok (x.0 ∷ bytes)

unfoldable pub name_at : List ℕ → Result Name Fault
name_at w = name_upto (length w) w

-- the name behind this letter and a colon
abbrev pub lettered_at : ℕ → List ℕ → Result Name Fault
lettered_at letter [] = Err BadLine
lettered_at letter (c ∷ []) = Err BadLine
lettered_at letter (c ∷ colon ∷ name) = if c == letter && colon == 58 then name_at name else Err BadLine

abbrev pub path_at : List ℕ → Result Name Fault
path_at w = lettered_at 112 w

-- whether a word begins with the letter, and what follows it
abbrev pub letter_at : ℕ → List ℕ → Bool × List ℕ
letter_at c [] = (false, [])
letter_at c (d ∷ ds) = if d == c then (true, ds) else (false, d ∷ ds)

-- the same, with the bits that the letter stands for
abbrev pub flag_at : ℕ → ℕ → List ℕ → ℕ × List ℕ
flag_at c bits w = let l = letter_at c w in (if l.0 then bits else 0, l.1)

-- no name, a path, or a name of the abstract namespace
unfoldable pub addr_at : List ℕ → Result Addr Fault
addr_at w =
    if bytes_eq w (codes "u") then Ok Addr.Unnamed
    else if (letter_at 112 w).0 then (path_at w >>= λ name. Ok (Addr.Path name))
    else (lettered_at 97 w >>= λ name. Ok (Addr.Abstract name))

-- an address, or a dash for none
unfoldable pub addr_or_dash_at : List ℕ → Result (Option Addr) Fault
addr_or_dash_at w = if bytes_eq w dash then Ok None else (addr_at w >>= λ addr. Ok (Some addr))

-- pairs of digits, one at least
abbrev pub some_pairs_at : List ℕ → Result (List ℕ) Fault
some_pairs_at [] = Err BadLine
some_pairs_at (c ∷ cs) = pairs_at (c ∷ cs)

-- the values that these words spell, which are all of one kind
abbrev pub each_at : {A : Type 0} → (List ℕ → Result A Fault) → List (List ℕ) → Result (List A) Fault
each_at kind [] = Ok []
each_at kind (w ∷ ws) = do
  x ← kind w
  xs ← each_at kind ws
  Ok (x ∷ xs)

-- numbers joined by commas, one at least
unfoldable pub numbers_at : List ℕ → Result (List ℕ) Fault
numbers_at w = each_at number_at (slice_split (λ b. b == 44) w)

-- the flags whose letters of anx a word begins with, and what follows
abbrev pub open_letters_at : List ℕ → OpenFlags × List ℕ
open_letters_at w =
    let a = flag_at 97 1 w in
    let n = flag_at 110 2 a.1 in
    let x = flag_at 120 4 n.1 in
    (record { 0 = bit_or (bit_or a.0 n.0) x.0 }, x.1)

unfoldable pub open_flags_at : List ℕ → Result OpenFlags Fault
open_flags_at [] = Err BadLine
open_flags_at (c ∷ cs) =
    let l = open_letters_at (c ∷ cs) in
    if bytes_eq (c ∷ cs) dash then Ok (record { 0 = 0 }) else
    if length l.1 == 0 then Ok l.0 else Err BadLine

-- the same, and s behind them of a semaphore
unfoldable pub counter_flags_at : List ℕ → Result (Bool × OpenFlags) Fault
counter_flags_at [] = Err BadLine
counter_flags_at (c ∷ cs) =
    let l = open_letters_at (c ∷ cs) in
    let s = letter_at 115 l.1 in
    if bytes_eq (c ∷ cs) dash then Ok (false, record { 0 = 0 }) else
    if length s.1 == 0 then Ok (s.0, l.0) else Err BadLine

unfoldable pub msg_flags_at : List ℕ → Result MsgFlags Fault
msg_flags_at [] = Err BadLine
msg_flags_at (c ∷ cs) =
    let d = flag_at 100 4 (c ∷ cs) in
    let p = flag_at 112 1 d.1 in
    let t = flag_at 116 2 p.1 in
    let x = flag_at 120 8 t.1 in
    if bytes_eq (c ∷ cs) dash then Ok (record { 0 = 0 }) else
    if length x.1 == 0 then Ok (record { 0 = bit_or (bit_or (bit_or d.0 p.0) t.0) x.0 }) else Err BadLine

-- the conditions whose letters of ioh a word has, or a dash for none
unfoldable pub events_at : List ℕ → Result PollFlags Fault
events_at [] = Err BadLine
events_at (c ∷ cs) =
    let i = flag_at 105 1 (c ∷ cs) in
    let o = flag_at 111 2 i.1 in
    let h = flag_at 104 4 o.1 in
    if bytes_eq (c ∷ cs) dash then Ok (record { 0 = 0 }) else
    if length h.1 == 0 then Ok (record { 0 = bit_or (bit_or i.0 o.0) h.0 }) else Err BadLine

-- ---- words

-- a value of the first word, and the words after it
abbrev pub one : {A : Type 0} → (List ℕ → Result A Fault) → List (List ℕ) → Result (A × List (List ℕ)) Fault
one kind [] = Err BadLine
one kind (w ∷ ws) = kind w >>= λ x. Ok (x, ws)

abbrev pub ends : List (List ℕ) → Result (Unit {0}) Fault
ends [] = Ok tt
ends (w ∷ ws) = Err BadLine

infixr 20 ◌>>◌
abbrev pub ◌>>◌ : {A B : Type 0} → (List ℕ → Result A Fault) → (List (List ℕ) → Result B Fault) → List (List ℕ) → Result (A × B) Fault
(kind >> row) ws = one kind ws >>= λ x. row x.1 >>= λ y. Ok (x.0, y)

-- a process, a user and a group, joined by commas
unfoldable pub cred_at : List ℕ → Result Cred Fault
cred_at w =
    (number_at >> number_at >> number_at >> ends) (slice_split (λ b. b == 44) w)
    >>= λ x. Ok (record { pid = record { 0 = x.0 }; uid = x.1.0; gid = x.1.1.0 })

-- a descriptor and what is asked for of it, joined by a colon
unfoldable pub asked_at : List ℕ → Result PollFd Fault
asked_at w = (fd_at >> events_at >> ends) (slice_split (λ b. b == 58) w) >>= λ x. Ok (record { fd = x.0; events = x.1.0 })

-- descriptors joined by commas, or a dash for none
unfoldable pub poll_fds_at : List ℕ → Result PollFds Fault
poll_fds_at w = if bytes_eq w dash then Ok [] else each_at asked_at (slice_split (λ b. b == 44) w)

-- descriptor numbers behind r:, or credentials behind c:
unfoldable pub control_item_at : List ℕ → Result ControlItem Fault
control_item_at [] = Err BadLine
control_item_at (c ∷ []) = Err BadLine
control_item_at (c ∷ colon ∷ rest) =
    if c == 114 && colon == 58 then (numbers_at rest >>= λ numbers. Ok (ControlItem.Rights numbers))
    else if c == 99 && colon == 58 then (cred_at rest >>= λ cred. Ok (ControlItem.Credentials cred))
    else Err BadLine

abbrev pub alone : ControlItem → ControlWord
alone (ControlItem.Rights numbers) = ControlWord.Rights numbers
alone (ControlItem.Credentials cred) = ControlWord.Credentials cred

-- one item of each kind
abbrev pub paired : ControlItem → ControlItem → Result ControlWord Fault
paired (ControlItem.Rights numbers) (ControlItem.Credentials cred) = Ok (ControlWord.RightsFirst numbers cred)
paired (ControlItem.Credentials cred) (ControlItem.Rights numbers) = Ok (ControlWord.CredentialsFirst cred numbers)
paired (ControlItem.Rights numbers) (ControlItem.Rights others) = Err BadLine
paired (ControlItem.Credentials cred) (ControlItem.Credentials other) = Err BadLine

-- one item, or two
abbrev pub each_item_at : List (List ℕ) → Result ControlWord Fault
each_item_at [] = Err BadLine
each_item_at (w ∷ []) = control_item_at w >>= λ item. Ok (alone item)
each_item_at (v ∷ w ∷ []) = control_item_at v >>= λ first. control_item_at w >>= λ second. paired first second
each_item_at (u ∷ v ∷ w ∷ ws) = Err BadLine

-- items joined by a plus
unfoldable pub control_items_at : List ℕ → Result ControlWord Fault
control_items_at w = each_item_at (slice_split (λ b. b == 43) w)

-- a dash, or bytes behind x:, or items
unfoldable pub control_at : List ℕ → Result ControlWord Fault
control_at [] = control_items_at []
control_at (c ∷ []) = if c == 45 then Ok ControlWord.Bare else control_items_at (c ∷ [])
control_at (c ∷ colon ∷ rest) =
    if c == 120 && colon == 58 then (some_pairs_at rest >>= λ bytes. Ok (ControlWord.Raw bytes)) else control_items_at (c ∷ colon ∷ rest)

-- ---- calls

-- what a word says that is a field of this kind
abbrev pub value_at : (kind : FieldKind) → List ℕ → Result (WrittenValue kind) Fault
value_at FieldKind.Fd w = fd_at w
value_at FieldKind.Number w = number_at w
value_at FieldKind.Size w = number_at w
value_at FieldKind.Space w = number_at w
value_at FieldKind.Value w = number_at w
value_at FieldKind.Offset w = offset_at w
value_at FieldKind.Backlog w = backlog_at w
value_at FieldKind.Path w = path_at w
value_at FieldKind.Bytes w = hex_at w
value_at FieldKind.Addr w = addr_at w
value_at FieldKind.Target w = addr_or_dash_at w
value_at FieldKind.Mode w = mode_at w
value_at FieldKind.Whence w = whence_at w
value_at FieldKind.SockType w = type_at w
value_at FieldKind.SockOpt w = option_at w
value_at FieldKind.OpenFlags w = open_flags_at w
value_at FieldKind.CounterFlags w = counter_flags_at w
value_at FieldKind.MsgFlags w = msg_flags_at w
value_at FieldKind.Control w = control_at w
value_at FieldKind.PollFds w = poll_fds_at w
value_at FieldKind.Waits w = waits_at w

-- one word for each field
abbrev pub values_at : (kinds : List FieldKind) → List (List ℕ) → Result (WrittenRow kinds) Fault
values_at [] ws = ends ws
values_at (kind ∷ kinds) ws = (value_at kind >> values_at kinds) ws

unfoldable pub word_at : List ℕ → Result CallWord Fault
word_at w = chosen_at word_text script_words w

-- the call of a word whose fields are these words
abbrev pub called_at : CallWord → List (List ℕ) → Result Request Fault
called_at word ws = values_at (kinds word) ws >>= λ row. Ok (request_of word (meant_row (kinds word) row))

abbrev pub args_at : CallWord → List (List ℕ) → Result Request Fault
args_at CallWord.Off ws = Err BadLine
args_at word ws = called_at word ws

-- ---- the header

-- which read or write fails, from 1, where the words begin with it, and the words after it
abbrev pub fail_at : List (List ℕ) → Result (Option ℕ × List (List ℕ)) Fault
fail_at [] = Ok (None, [])
fail_at (w ∷ ws) =
    if bytes_eq w (codes "fail") then (one number_at ws >>= λ x. if x.0 == 0 then Err BadLine else Ok (Some x.0, x.1)) else
    Ok (None, w ∷ ws)

-- what an object of this kind starts with
abbrev pub body_at : ObjKind → List (List ℕ) → Result (List ℕ) Fault
body_at ObjKind.Memory ws = (hex_at >> ends) ws >>= λ x. Ok x.0
body_at ObjKind.Counter ws = ends ws >>= λ x. Ok []
body_at ObjKind.Pipe ws = ends ws >>= λ x. Ok []

abbrev pub contents_at : List (List ℕ) → Result (ObjKind × List ℕ) Fault
contents_at ws = one kind_at ws >>= λ x. body_at x.0 x.1 >>= λ body. Ok (x.0, body)

-- an object behind its name
abbrev pub described_at : List (List ℕ) → Result (Option ℕ × (ObjKind × List ℕ)) Fault
described_at ws = fail_at ws >>= λ f. contents_at f.1 >>= λ x. Ok (f.0, x)

unfoldable pub object_at : List (List ℕ) → Result ObjectLine Fault
object_at ws = (path_at >> described_at) ws >>= λ x. Ok (record { name = x.0; fail = x.1.0; kind = x.1.1.0; body = x.1.1.1 })

unfoldable pub proc_at : List (List ℕ) → Result ProcSpec Fault
proc_at ws =
    (number_at >> number_at >> bit_at >> number_at >> ends) ws
    >>= λ x. Ok (record { uid = x.0; gid = x.1.0; privileged = x.1.1.0; limit = x.1.1.1.0 })

-- ---- lines

unfoldable pub wait_at : List (List ℕ) → Result Act Fault
wait_at ws = (number_at >> number_at >> ends) ws >>= λ x. Ok (Act.Wait (record { 0 = x.0 }) x.1.0)

abbrev pub call_at : List ℕ → List (List ℕ) → Result Act Fault
call_at w ws = do
  word ← word_at w
  request ← args_at word ws
  Ok (Act.Call request)

-- what the words behind a process's number ask for
unfoldable pub act_at : List (List ℕ) → Result Act Fault
act_at [] = Err BadLine
act_at (w ∷ ws) = if bytes_eq w (codes "wait") then wait_at ws else call_at w ws

abbrev pub turn_at : ℕ → List (List ℕ) → Result Parsed Fault
turn_at pid ws = act_at ws >>= λ act. Ok (Parsed.Line (record { pid = record { 0 = pid }; act = act }))

unfoldable pub words_at : List (List ℕ) → Result Parsed Fault
words_at [] = Err BadLine
words_at (w ∷ ws) =
    if bytes_eq w (codes "proc") then (proc_at ws >>= λ p. Ok (Parsed.Header (Header.Proc p)))
    else if bytes_eq w (codes "object") then (object_at ws >>= λ o. Ok (Parsed.Header (Header.Object o)))
    else if bytes_eq w (codes "off") then (ends ws >>= λ x. Ok Parsed.Off)
    else if bytes_eq w (codes "serial") then (ends ws >>= λ x. Ok Parsed.Serial)
    else (number_at w >>= λ pid. turn_at pid ws)

-- what a line says that may have so many bytes, as it is written; the words are those of its plain line
unfoldable pub item_at : ℕ → List ℕ → Result Parsed Fault
item_at limit text =
    if nat_lt limit (length text) then Err TooLong else
    if is_meant text then words_at (slice_split (λ b. b == 32) (plain_line text)) else Ok Parsed.Skipped

abbrev pub with_header : Plan → Header → Plan
with_header s (Header.Object o) =
    record { serial = s.serial; objects = s.objects ++ o ∷ []; procs = s.procs; lines = s.lines; off = s.off }
with_header s (Header.Proc p) = record { serial = s.serial; objects = s.objects; procs = s.procs ++ p ∷ []; lines = s.lines; off = s.off }

abbrev pub with_line : Plan → Line → Plan
with_line s line = record { serial = s.serial; objects = s.objects; procs = s.procs; lines = s.lines ++ line ∷ []; off = s.off }

abbrev pub with_off : Plan → Plan
with_off s = record { serial = s.serial; objects = s.objects; procs = s.procs; lines = s.lines; off = true }

-- the script with one order alone
abbrev pub with_serial : Plan → Plan
with_serial s = record { serial = true; objects = s.objects; procs = s.procs; lines = s.lines; off = s.off }

-- no line has said anything yet, but for `off`
abbrev pub is_unsaid : Plan → Bool
is_unsaid s = not s.serial && (length s.objects == 0 && (length s.procs == 0 && length s.lines == 0))

-- the script with one line more, of a process that is there
abbrev pub joined_by_line : Plan → Line → Result Plan Fault
joined_by_line s line =
    if has_exited s.lines line.pid.0 then Err BadLine else
    if awaits_known (known_count s) line.act then Ok (with_line s line) else Err UnknownProcess

-- A fork of the process may come next: it is there and has made no exit, it is process 1 where the script has more orders than one, and
-- there
-- are fewer processes than may be made.
abbrev pub may_fork : Plan → ℕ → Bool
may_fork s pid = ((s.serial || pid == 1) && nat_lt (known_count s) made_limit)
    && (is_known (known_count s) pid && not (has_exited s.lines pid))

-- the script with one fork line more
abbrev pub joined_by_fork : Plan → Line → Result Plan Fault
joined_by_fork s line = if may_fork s line.pid.0 then Ok (with_line s line) else Err BadLine

-- the call doesn't stand in a script of several orders
abbrev pub is_barred : Bool → Act → Bool
is_barred serial act = not serial && asks_recorded act

-- the script with one line more whose call may stand there
abbrev pub joined_by_allowed : Plan → Line → Result Plan Fault
joined_by_allowed s line = if is_known (known_count s) line.pid.0 then joined_by_line s line else Err UnknownProcess

-- the script with one line more that is no fork
abbrev pub joined_by_other : Plan → Line → Result Plan Fault
joined_by_other s line = if is_barred s.serial line.act then Err BadLine else joined_by_allowed s line

-- The script with one item more where `off` was not said. A process that isn't there has no lines, so it has made no exit.
abbrev pub joined_by : Plan → Parsed → Result Plan Fault
joined_by s Parsed.Skipped = Ok s
joined_by s (Parsed.Header h) = if length s.lines == 0 then Ok (with_header s h) else Err BadLine
joined_by s (Parsed.Line line) = if asks_fork line.act then joined_by_fork s line else joined_by_other s line
joined_by s Parsed.Off = Ok (with_off s)
joined_by s Parsed.Serial = if is_unsaid s then Ok (with_serial s) else Err BadLine

abbrev pub is_skipped : Parsed → Bool
is_skipped Parsed.Skipped = true
is_skipped (Parsed.Header h) = false
is_skipped (Parsed.Line line) = false
is_skipped Parsed.Off = false
is_skipped Parsed.Serial = false

-- the script with one item more: nothing is said after `off`
abbrev pub added : Plan → Parsed → Result Plan Fault
added s item = if s.off && not (is_skipped item) then Err BadLine else joined_by s item

unfoldable pub line_at : Plan → List ℕ → Result Plan Fault
line_at s text = item_at (line_limit s.serial) text >>= λ item. added s item

-- the fault of a line of this number
abbrev pub line_fault : ℕ → Fault → ScriptFault
line_fault n BadLine = ScriptFault.BadLine n
line_fault n UnknownProcess = ScriptFault.UnknownProcess n
line_fault n TooLong = ScriptFault.TooLong n

-- what follows a line, or the fault of the line of this number
abbrev pub on_line : ℕ → (Plan → Result Plan ScriptFault) → Result Plan Fault → Result Plan ScriptFault
on_line n go (Ok s) = go s
on_line n go (Err f) = Err (line_fault n f)

-- the script after further lines, or the first line at fault, where the first of them has this number
abbrev pub lines_at : ℕ → Plan → List (List ℕ) → Result Plan ScriptFault
lines_at n s [] = Ok s
lines_at n s (text ∷ texts) = on_line n (λ t. lines_at (suc n) t texts) (line_at s text)

abbrev pub no_lines : Plan
no_lines = record { serial = false; objects = []; procs = []; lines = []; off = false }

-- what reading the lines of a whole text gives
abbrev pub script_at : List (List ℕ) → Result Plan ScriptFault
script_at texts = lines_at 1 no_lines texts
