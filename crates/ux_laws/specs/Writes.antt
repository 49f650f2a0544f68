-- What is in a memory file: what writes put there, and nothing else; and what of a description stays (write(2), open(2), O_APPEND; lseek(2);
-- fcntl(2), F_SETFL; POSIX.1-2017, write, open and fcntl).
use Rattle.std.specs.Prelude.{◌≡◌, ◌⊎◌, ℕ, suc, ◌+◌, ◌-◌, ◌==◌, ◌<◌, ◌≤◌, min, nat_le, Bool, true, false, if◌then◌else◌, List, [], ◌∷◌, length, take}
use Rattle.std.specs.Prelude.{Option, Some, None, Ok}
use Rattle.std.specs.List.{slice_get}
use Rattle.ux_model.specs.Types.{Fd, Name, Mode, OpenFlags, Request, Reply, Entry}
use Rattle.ux_model.specs.Limits.{file_limit}
use Rattle.ux_model.specs.Flags.{can_write, asks_append, asks_nonblock}
use Rattle.ux_model.specs.Object.{Body, memory, overwritten, size_of_body}
use Rattle.ux_model.specs.Description.{Description, to_object, to_socket}
use Rattle.ux_model.specs.Process.{Descriptor}
use Rattle.ux_model.specs.State.{State, description_at, next_description}
use Rattle.ux_model.specs.Names.{file, named}
use Rattle.ux_model.specs.Opening.{file_description}
use Rattle.ux_model.specs.Making.{next_object}
use Rattle.ux_model.specs.Outcome.{find_description}
use Rattle.ux_model.specs.History.{replay, IsLegal}
use Rattle.ux_model.specs.Giving.{description_of}
use Rattle.ux_model.specs.Pedigree.{before}
use Rattle.ux_laws.specs.Gathering.{gathered}
use Rattle.ux_laws.specs.Talking.{if_found}
use Rattle.ux_laws.specs.Files.{body_at, object_behind, HasWay}

-- ---- one write

-- a file with these bytes from a place on, over what was there, and with zeros up to there where it was shorter; no bytes change nothing
abbrev pub with_put : List ℕ → ℕ → List ℕ → List ℕ
with_put held start [] = held
with_put held start (b ∷ bytes) = overwritten held start (b ∷ bytes)

-- where a write to a file of this size begins: at the description's offset, or with O_APPEND at the end
abbrev pub write_start : Description → ℕ → ℕ
write_start D size = if D.append then size else D.offset

-- What a write of these bytes through a description left in a file that held this, where it was answered n.
pub record IsPut (T : State) (d o : ℕ) (D : Description) (held bytes : List ℕ) (n : ℕ) : Type 0 where
  -- as many as the greatest size of a file lets in, which is all where that is far
  pub taken : n ≡ min (length bytes) (file_limit - write_start D (length held))
  pub left : (body : Body) → body_at T o ≡ Some body → body ≡ memory (with_put held (write_start D (length held)) (take n bytes))
  -- The offset is behind them.
  pub moved : (E : Description) → description_at T d ≡ Some E →
      E.offset ≡ (if n == 0 then D.offset else write_start D (length held) + n)

abbrev pub WritesPut : Type 0
WritesPut = (boot : State) (entries : List Entry) (j n o : ℕ) (e : Entry) (fd : Fd) (bytes held : List ℕ) (x : Descriptor) (D : Description) →
    IsLegal boot entries → slice_get entries j ≡ Some e → e.request ≡ Request.Write fd bytes →
    find_description (before boot entries j) e.pid.0 fd ≡ Ok (x, D) → D.target ≡ to_object o →
    body_at (before boot entries j) o ≡ Some (memory held) → e.reply ≡ Reply.Count n →
    IsPut (before boot entries (suc j)) x.description o D held bytes n

-- ---- all writes

pub record Put : Type 0 where
  pub start : ℕ
  pub bytes : List ℕ

-- the size of a file object, if it is there
abbrev pub size_in : Option Body → ℕ
size_in None = 0
size_in (Some body) = size_of_body body

-- what a write through this descriptor and description put into file object o
abbrev pub put_through : State → ℕ → List ℕ → ℕ → Option (Descriptor × Description) → List Put
put_through S o bytes n None = []
put_through S o bytes n (Some found) = elim found.1.target [
  | to_object k ↦ if k == o then record { start = write_start found.1 (size_in (body_at S o)); bytes = take n bytes } ∷ [] else []
  | to_socket s ↦ []
]

-- what a call of process p put there
abbrev pub put_now : ℕ → State → ℕ → Request → Reply → List Put
put_now o S p (Request.Write fd bytes) (Reply.Count n) = put_through S o bytes n (if_found (find_description S p fd))
put_now o S p _ _ = []

-- what the calls of a history from number j on did, in order
abbrev pub puts_since : ℕ → ℕ → State → List Entry → List Put
puts_since j o boot entries = gathered (λ n S e. if nat_le j n then put_now o S e.pid.0 e.request e.reply else []) boot entries

-- a file with all of these
abbrev pub with_puts : List ℕ → List Put → List ℕ
with_puts held [] = held
with_puts held (w ∷ ws) = with_puts (with_put held w.start w.bytes) ws

-- A memory file that had these bytes when call j was made has at each later moment, as long as it is there, what writes have made of them.
abbrev pub FilesAreTheirWrites : Type 0
FilesAreTheirWrites = (boot : State) (entries : List Entry) (j k o : ℕ) (held : List ℕ) (body : Body) → IsLegal boot entries → j ≤ k →
    k ≤ length entries → body_at (before boot entries j) o ≡ Some (memory held) → body_at (before boot entries k) o ≡ Some body →
    body ≡ memory (with_puts held (puts_since j o boot (take k entries)))

-- ---- each byte

-- One that stands at place i before call k stood there when call j was made, fills a gap, or is one of a write since, by a number that leads
-- to an opening for writing.
pub data CameFrom (boot : State) (entries : List Entry) (j k o : ℕ) (held : List ℕ) (i b : ℕ) : Type 0 where
  kept : slice_get held i ≡ Some b → CameFrom boot entries j k o held i b
  gap : b ≡ 0 → CameFrom boot entries j k o held i b
  written : (c place : ℕ) (e : Entry) (fd : Fd) (bytes : List ℕ) → j ≤ c → c < k → slice_get entries c ≡ Some e →
      e.request ≡ Request.Write fd bytes → object_behind (before boot entries c) e.pid.0 fd ≡ Some o →
      HasWay boot (take c entries) can_write o e.pid.0 fd.0 → slice_get bytes place ≡ Some b → CameFrom boot entries j k o held i b

abbrev pub BytesHaveAWay : Type 0
BytesHaveAWay = (boot : State) (entries : List Entry) (j k o i b : ℕ) (held now : List ℕ) → IsLegal boot entries → j ≤ k →
    k ≤ length entries → body_at (before boot entries j) o ≡ Some (memory held) → body_at (before boot entries k) o ≡ Some (memory now) →
    slice_get now i ≡ Some b → CameFrom boot entries j k o held i b

-- ---- descriptions

abbrev pub same_mode : Mode → Mode → Bool
same_mode Mode.Read Mode.Read = true
same_mode Mode.Write Mode.Write = true
same_mode Mode.Both Mode.Both = true
same_mode _ _ = false

-- What a number finds is open in the mode of the call that opened the file object for it, or made it.
abbrev pub ModesAreAsked : Type 0
ModesAreAsked = (boot : State) (entries : List Entry) (p o : ℕ) (fd : Fd) (x : Descriptor) (D : Description) → IsLegal boot entries →
    find_description (replay boot entries) p fd ≡ Ok (x, D) → D.target ≡ to_object o → HasWay boot entries (same_mode D.mode) o p fd.0

-- A description that leads to a file object leads there in the same mode for good.
pub record StaysOpen (o : ℕ) (mode : Mode) (E : Description) : Type 0 where
  pub leads : E.target ≡ to_object o
  pub mode_kept : E.mode ≡ mode

abbrev pub ModesStay : Type 0
ModesStay = (boot : State) (entries : List Entry) (j k d o : ℕ) (D E : Description) → IsLegal boot entries → j ≤ k → k ≤ length entries →
    description_at (before boot entries j) d ≡ Some D → D.target ≡ to_object o → description_at (before boot entries k) d ≡ Some E →
    StaysOpen o D.mode E

-- A call of process p sets O_APPEND of description d so (F_SETFL), through a number that leads there.
pub record SetsAppend (S : State) (p : ℕ) (request : Request) (d : ℕ) (append : Bool) : Type 0 where
  pub fd : Fd
  pub flags : OpenFlags
  pub asked : request ≡ Request.SetFlags fd flags
  pub leads : description_of S p fd.0 ≡ Some d
  pub is : append ≡ asks_append flags

-- O_APPEND of a description that leads to a file object changes by such a call alone.
abbrev pub AppendsStay : Type 0
AppendsStay = (boot : State) (entries : List Entry) (j d o : ℕ) (e : Entry) (D E : Description) → IsLegal boot entries →
    slice_get entries j ≡ Some e → description_at (before boot entries j) d ≡ Some D → D.target ≡ to_object o →
    description_at (before boot entries (suc j)) d ≡ Some E →
    (E.append ≡ D.append) ⊎ SetsAppend (before boot entries j) e.pid.0 e.request d E.append

-- After each that is answered ok what the number leads to has O_APPEND and O_NONBLOCK as was asked.
pub record HasFlags (E : Description) (flags : OpenFlags) : Type 0 where
  pub appends : E.append ≡ asks_append flags
  pub blocks_not : E.nonblock ≡ asks_nonblock flags

abbrev pub FlagsAreSet : Type 0
FlagsAreSet = (boot : State) (entries : List Entry) (j d : ℕ) (e : Entry) (fd : Fd) (flags : OpenFlags) (E : Description) →
    IsLegal boot entries → slice_get entries j ≡ Some e → e.request ≡ Request.SetFlags fd flags → e.reply ≡ Reply.Ok →
    description_of (before boot entries j) e.pid.0 fd.0 ≡ Some d → description_at (before boot entries (suc j)) d ≡ Some E →
    HasFlags E flags

-- the number that a read, a write or an lseek goes through
abbrev pub moves_through : Request → Option Fd
moves_through (Request.Read fd n) = Some fd
moves_through (Request.Write fd bytes) = Some fd
moves_through (Request.Lseek fd offset whence) = Some fd
moves_through _ = None

-- Its offset changes by a read, a write or an lseek alone, through a number that leads to it.
abbrev pub OffsetsStay : Type 0
OffsetsStay = (boot : State) (entries : List Entry) (j d o : ℕ) (e : Entry) (D E : Description) → IsLegal boot entries →
    slice_get entries j ≡ Some e → description_at (before boot entries j) d ≡ Some D → D.target ≡ to_object o →
    description_at (before boot entries (suc j)) d ≡ Some E →
    (E.offset ≡ D.offset) ⊎ ((fd : Fd) × (moves_through e.request ≡ Some fd) × (description_of (before boot entries j) e.pid.0 fd.0 ≡ Some d))

-- ---- a new description

-- The call opens this file object in this mode, with these flags.
pub data Opens (S : State) (request : Request) (o : ℕ) (mode : Mode) (flags : OpenFlags) : Type 0 where
  by_path : (path : Name) → request ≡ Request.Open path mode flags → named path S.paths ≡ Some (file o) → Opens S request o mode flags
  creating : (path : Name) → request ≡ Request.Create path mode flags → o ≡ next_object S → Opens S request o mode flags
  in_memory : request ≡ Request.MemFd flags → mode ≡ Mode.Both → o ≡ next_object S → Opens S request o mode flags

-- Its number leads to a new description then, open in that mode, with O_APPEND as it was asked, at the start of the file.
pub record IsOpened (S T : State) (p : ℕ) (fd : Fd) (o : ℕ) (mode : Mode) (flags : OpenFlags) : Type 0 where
  pub leads : description_of T p fd.0 ≡ Some (next_description S)
  pub is : description_at T (next_description S) ≡ Some (file_description o mode flags)

abbrev pub OpeningsAreAsAsked : Type 0
OpeningsAreAsAsked = (boot : State) (entries : List Entry) (j o : ℕ) (e : Entry) (fd : Fd) (mode : Mode) (flags : OpenFlags) →
    IsLegal boot entries → slice_get entries j ≡ Some e → Opens (before boot entries j) e.request o mode flags → e.reply ≡ Reply.Fd fd →
    IsOpened (before boot entries j) (before boot entries (suc j)) e.pid.0 fd o mode flags

-- A creating open and a memfd_create make a memory file, which has no bytes then.
pub data MakesFile (request : Request) : Type 0 where
  by_create : (path : Name) (mode : Mode) (flags : OpenFlags) → request ≡ Request.Create path mode flags → MakesFile request
  by_memfd : (flags : OpenFlags) → request ≡ Request.MemFd flags → MakesFile request

abbrev pub NewFilesAreEmpty : Type 0
NewFilesAreEmpty = (boot : State) (entries : List Entry) (j : ℕ) (e : Entry) (fd : Fd) → IsLegal boot entries →
    slice_get entries j ≡ Some e → MakesFile e.request → e.reply ≡ Reply.Fd fd →
    body_at (before boot entries (suc j)) (next_object (before boot entries j)) ≡ Some (memory [])
